-- The pass over the candidates of a row, by steps: what a candidate that can stand there does to the pick, and what one that cannot.
-- Assumes nothing.
use Prim.Native.Nat.{ℕ, zero, suc, ◌+◌, ◌≤◌, ◌<◌}
use mathlib.Core.Path.{◌≡◌, sym, ◌∙◌}
use mathlib.Core.Bool.{Bool, true, false}
use Rattle.std.specs.Prelude.{Some}
use mathlib.Core.List.{List}
use native.Mathlib.Omega.{arith}
use native.Mathlib.Numerals.{add-one}
use lib.Dec.{ltb}
use lib.ListN.{get_or}
use borrow.Author.Tests.{lt-ltb, le-ltb, leb-true, ltb-true, ltb-false}
use Rattle.lists.proofs.Cases.{by_test, and_split}
use Rattle.candidates.specs.SlotArrays.{Candidates}
use Rattle.choice.specs.declared.Pick.{Pick}
use Rattle.choice.specs.declared.Listed.{Listed}
use Rattle.choice.specs.Filled.{Band, slot, listed, has_clear_top, sum_at, better, pick_to, no_listed, pick_among, RowInBounds}

-- the step on a pick
pub better_more : (p : Pick) (sum net : ℕ) → p.sum < sum → better p sum net ≡ record { sum = sum; at = Some net }
unfolding better
better_more p sum net l = rw (lt-ltb p.sum sum l)

pub better_not : (p : Pick) (sum net : ℕ) → sum ≤ p.sum → better p sum net ≡ p
unfolding better
better_not p sum net l = rw (le-ltb p.sum sum l)

-- a candidate that can stand at a row has a top there
pub stands_within : (x : Listed) (flags : List ℕ) (j : ℕ) → has_clear_top x flags j ≡ true → (x.candidate.tops.first.0 ≤ j) × (j ≤ x.candidate.tops.last.0)
unfolding has_clear_top
stands_within x flags j h =
    let s = and_split _ _ (and_split _ _ h).0 in
    (leb-true _ _ s.0, leb-true _ _ s.1)

-- what the pick becomes with one candidate more
module _ (c : Candidates) (flags best : List ℕ) (j i : ℕ) where
  pub pick_suc_taken : has_clear_top (listed c i) flags j ≡ true →
      pick_to c flags best j (suc i) ≡ better (pick_to c flags best j i) (sum_at (slot c i) best j) (slot c i).net
  unfolding pick_to
  pick_suc_taken s = rw s

  pub pick_suc_passed : has_clear_top (listed c i) flags j ≡ false → pick_to c flags best j (suc i) ≡ pick_to c flags best j i
  unfolding pick_to
  pick_suc_passed s = rw s

-- the pick with one listed candidate more, as the loop has it: `can` is what `has_clear_top` answered, p the pick before and r the one after
module _ (flags best : List ℕ) (j : ℕ) (slots : List Listed) (k : ℕ) (x : Listed) (at : x ≡ get_or slots k no_listed) where
  pub pick_taken : {can : Bool} {p r : Pick} → can ≡ has_clear_top x flags j → p ≡ pick_among flags best j slots k → can ≡ true →
      r ≡ better p (sum_at x.candidate best j) x.candidate.net → r ≡ pick_among flags best j slots (k + 1)
  unfolding pick_among
  pick_taken a h t e = rw (add-one k, ← at, sym a ∙ t, ← h) e

  pub pick_passed : {can : Bool} {p r : Pick} → can ≡ has_clear_top x flags j → p ≡ pick_among flags best j slots k → can ≡ false → r ≡ p →
      r ≡ pick_among flags best j slots (k + 1)
  unfolding pick_among
  pick_passed a h t f = rw (add-one k, ← at, sym a ∙ t) (f ∙ h)

-- a listed candidate that can stand at row j has the row below it in the table, and its sum is not too large
module _ (flags best : List ℕ) (j : ℕ) (band : Band) (b : RowInBounds flags best j band) where
  pub record Room (x : Listed) : Type 0 where
    pub ends : j + x.candidate.tops.need ≤ 1025
    pub sum_low : x.candidate.tops.weight + get_or best (j + x.candidate.tops.need) 0 ≤ 4194304

  pub stands_room : (k : ℕ) (x : Listed) {can : Bool} → k < band.count → x ≡ get_or band.slots k no_listed → can ≡ has_clear_top x flags j → can ≡ true → Room x
  stands_room k x h at e t =
      let w = stands_within x flags j (sym e ∙ t) in
      let l = rw (← at) at (b.each_listed k h) in
      record { ends = l.room w.1; sum_low = l.low w.1 }

-- where no sum of a candidate that can stand at row j is above m, and that of the next row is not, the pick is not
pub pick_low : (c : Candidates) (flags best : List ℕ) (j m : ℕ) → get_or best (j + 1) 0 ≤ m →
    ((i : ℕ) → i < c.count → j ≤ (slot c i).tops.last.0 → sum_at (slot c i) best j ≤ m) →
    (i : ℕ) → i ≤ c.count → (pick_to c flags best j i).sum ≤ m
unfolding pick_to
pick_low c flags best j m g f zero h = g
pick_low c flags best j m g f (suc i) h =
    by_test (has_clear_top (listed c i) flags j)
    (λ s.
    let p = pick_to c flags best j i in
    by_test (ltb p.sum (sum_at (slot c i) best j))
    (λ t.
    rw (s, better_more p (sum_at (slot c i) best j) (slot c i).net (ltb-true _ _ t))
    (f i (omega arith) (stands_within (listed c i) flags j s).1))
    (λ t. rw (s, better_not p (sum_at (slot c i) best j) (slot c i).net (ltb-false _ _ t)) (pick_low c flags best j m g f i (omega arith))))
    (λ s. rw s (pick_low c flags best j m g f i (omega arith)))
