-- The candidates listed for a band of rows: the pick over them is the pick over all, at every row of the band. Assumes nothing.
use Prim.Native.Nat.{ℕ, zero, suc, ◌+◌, ◌≤◌, ◌<◌}
use mathlib.Core.Path.{◌≡◌, refl, sym, ◌∙◌, subst}
use mathlib.Core.Bool.{Bool, true, false, true≢false}
use mathlib.Core.List.{List}
use native.Mathlib.Omega.{arith}
use native.Mathlib.Numerals.{add-one}
use lib.ListN.{length, get_or, set, length-set}
use lib.Seq.{get_or-set_same, get_or-set_other}
use lib.Dec.{eqb}
use borrow.Author.Tests.{le-leb, eqb-true, eqb-false}
use Rattle.lists.proofs.Cases.{by_test, and_both}
use Rattle.candidates.specs.SlotArrays.{Candidates, with_value}
use Rattle.choice.specs.declared.Pick.{Pick}
use Rattle.choice.specs.declared.Listed.{Listed}
use Rattle.choice.specs.Filled.{Band, slot, listed, has_clear_top, pick_to, in_band, no_listed, band_to, pick_among}
use Rattle.choice.proofs.Picking.{stands_within, pick_suc_passed}

-- a listed candidate is one of the first i
pub record ListedOf (c : Candidates) (i : ℕ) (x : Listed) : Type 0 where
  pub below : x.part < i
  pub is : x ≡ listed c x.part

-- no more are listed than the first i candidates, each has a slot, and each is one of them
pub record BandShape (c : Candidates) (b : Band) (i : ℕ) : Type 0 where
  pub count_range : b.count ≤ i
  pub slots_length : length b.slots ≡ 512
  pub each : (k : ℕ) → k < b.count → ListedOf c i (get_or b.slots k no_listed)

one_later : (c : Candidates) (i : ℕ) (x : Listed) → ListedOf c i x → ListedOf c (suc i) x
one_later c i x l = record { below = omega (arith, l.below); is = l.is }

-- what holds of the candidate put in slot i, and elsewhere of what stood there, holds of each slot
set_listed : (P : Listed → Type 0) (xs : List Listed) (i : ℕ) (v : Listed) (k : ℕ) → i < length xs → P v → ((k ≡ i → ⊥) → P (get_or xs k no_listed)) →
    P (get_or (set xs i v) k no_listed)
set_listed P xs i v k h here there =
    by_test (eqb k i) (λ t. let e : k ≡ i = eqb-true k i t in rw (e, get_or-set_same xs i v no_listed h) here)
    (λ t. let d : k ≡ i → ⊥ = eqb-false k i t in rw (get_or-set_other xs i k v no_listed d) (there d))

shape_listed : (c : Candidates) (b : Band) (i : ℕ) → i < 512 → BandShape c b i → BandShape c (with_value b (listed c i)) (suc i)
unfolding with_value
shape_listed c b i h s =
    record {
      count_range = omega (arith, s.count_range);
      slots_length = length-set b.slots b.count (listed c i) ∙ s.slots_length;
      each = λ k l.
          set_listed (λ x. ListedOf c (suc i) x) b.slots b.count (listed c i) k (omega (arith, s.count_range, s.slots_length)) (record { below = omega arith; is = refl })
          (λ (d : k ≡ b.count → ⊥). one_later c i _ (s.each k (omega (arith, d))));
    }

shape_passed : (c : Candidates) (b : Band) (i : ℕ) → BandShape c b i → BandShape c b (suc i)
shape_passed c b i s = record { count_range = omega (arith, s.count_range); slots_length = s.slots_length; each = λ k l. one_later c i _ (s.each k l) }

module _ (c : Candidates) (lo hi : ℕ) (old : List Listed) where
  abbrev band_before : ℕ → Band
  band_before i = band_to c lo hi old i

  -- one candidate more
  band_suc_listed : (i : ℕ) → in_band (slot c i) lo hi ≡ true → band_before (suc i) ≡ with_value (band_before i) (listed c i)
  unfolding band_to
  band_suc_listed i t = rw t

  band_suc_passed : (i : ℕ) → in_band (slot c i) lo hi ≡ false → band_before (suc i) ≡ band_before i
  unfolding band_to
  band_suc_passed i t = rw t

  -- as the loop has it: `has` is what `has_top` answered
  pub band_listed : (i : ℕ) {has : Bool} {b d : Band} → has ≡ in_band (slot c i) lo hi → b ≡ band_before i → has ≡ true → d ≡ with_value b (listed c i) → d ≡ band_before (i + 1)
  band_listed i a h t f = rw (add-one i, band_suc_listed i (sym a ∙ t), ← h) f

  pub band_passed : (i : ℕ) {has : Bool} {b d : Band} → has ≡ in_band (slot c i) lo hi → b ≡ band_before i → has ≡ false → d ≡ b → d ≡ band_before (i + 1)
  band_passed i a h t f = rw (add-one i, band_suc_passed i (sym a ∙ t)) (f ∙ h)

  pub band_shape : length old ≡ 512 → (i : ℕ) → i ≤ 512 → BandShape c (band_before i) i
  unfolding band_to
  band_shape e zero h = record { count_range = omega arith; slots_length = e; each = λ k l. absurd (omega arith) }
  band_shape e (suc i) h =
      let s = band_shape e i (omega arith) in
      by_test (in_band (slot c i) lo hi)
      (λ t. subst (λ b. BandShape c b (suc i)) (sym (band_suc_listed i t)) (shape_listed c (band_before i) i (omega arith) s))
      (λ t. subst (λ b. BandShape c b (suc i)) (sym (band_suc_passed i t)) (shape_passed c (band_before i) i s))

  -- so there is a slot for one more
  pub band_room : length old ≡ 512 → (i : ℕ) {b : Band} → i < 512 → b ≡ band_before i → b.count < 512
  band_room size i h e =
      let s = band_shape size i (omega arith) in
      rw e (omega (arith, s.count_range))

  -- a candidate that can stand at a row of the band has a top in it
  stands_in_band : (flags : List ℕ) (j i : ℕ) → lo ≤ j → j ≤ hi → has_clear_top (listed c i) flags j ≡ true → in_band (slot c i) lo hi ≡ true
  unfolding in_band
  stands_in_band flags j i l h s =
      let w = stands_within (listed c i) flags j s in
      and_both _ _ (le-leb (slot c i).tops.first.0 hi (omega arith)) (le-leb lo (slot c i).tops.last.0 (omega arith))

  not_in_band : (flags : List ℕ) (j i : ℕ) → lo ≤ j → j ≤ hi → in_band (slot c i) lo hi ≡ false → has_clear_top (listed c i) flags j ≡ false
  not_in_band flags j i l h t =
      by_test (has_clear_top (listed c i) flags j) (λ s. absurd (true≢false (sym (stands_in_band flags j i l h s) ∙ t))) (λ s. s)

module _ (c : Candidates) (flags best : List ℕ) (j : ℕ) where
  abbrev picked_among : List Listed → ℕ → Pick
  picked_among slots k = pick_among flags best j slots k

  -- what stands behind the listed candidates does not count
  among_set : (slots : List Listed) (n : ℕ) (v : Listed) (k : ℕ) → k ≤ n → picked_among (set slots n v) k ≡ picked_among slots k
  unfolding pick_among
  among_set slots n v zero h = refl
  among_set slots n v (suc k) h = rw (get_or-set_other slots n k v no_listed (λ (z : k ≡ n). omega arith), among_set slots n v k (omega arith))

  among_listed : (b : Band) (i : ℕ) → b.count < length b.slots → picked_among b.slots b.count ≡ pick_to c flags best j i →
      picked_among (with_value b (listed c i)).slots (with_value b (listed c i)).count ≡ pick_to c flags best j (suc i)
  unfolding pick_among pick_to with_value
  among_listed b i h e =
      rw (add-one b.count, get_or-set_same b.slots b.count (listed c i) no_listed h, among_set b.slots b.count (listed c i) b.count (omega arith), e)

  -- at every row of the band
  pub band_pick : (lo hi : ℕ) (old : List Listed) → length old ≡ 512 → lo ≤ j → j ≤ hi → (i : ℕ) → i ≤ 512 →
      picked_among (band_to c lo hi old i).slots (band_to c lo hi old i).count ≡ pick_to c flags best j i
  unfolding band_to pick_among pick_to
  band_pick lo hi old size l h zero r = refl
  band_pick lo hi old size l h (suc i) r =
      let s = band_shape c lo hi old size i (omega arith) in
      let e = band_pick lo hi old size l h i (omega arith) in
      by_test (in_band (slot c i) lo hi)
      (λ t.
      subst (λ (b : Band). picked_among b.slots b.count ≡ pick_to c flags best j (suc i)) (sym (band_suc_listed c lo hi old i t))
      (among_listed (band_to c lo hi old i) i (omega (arith, s.count_range, s.slots_length)) e))
      (λ t.
      subst (λ (b : Band). picked_among b.slots b.count ≡ pick_to c flags best j (suc i)) (sym (band_suc_passed c lo hi old i t))
      (e ∙ sym (pick_suc_passed c flags best j i (not_in_band c lo hi old flags j i l h t))))
