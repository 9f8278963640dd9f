-- The plan of a track by value, row by row: place j − 1 holds the index of the net chosen for row j. Assumes nothing.
use Prim.Native.Nat.{ℕ, zero, suc, ◌+◌, ◌-◌, ◌≤◌, ◌<◌}
use mathlib.Core.Path.{◌≡◌, refl, sym, ap, ◌∙◌}
use mathlib.Core.Logic.{⊎_elim}
use Rattle.std.specs.Prelude.{Option, None, Some, unwrap_or}
use mathlib.Core.List.Memᴰ
use mathlib.Core.List.{List, [], ◌∷◌, Memᴰ}
use native.Mathlib.Omega.{arith}
use mathlib.Core.Bool.{Bool}
use lib.Dec.{eqb}
use lib.ListN.{length, get_or, get_or-append}
use borrow.Author.Tests.{eq-eqb, ne_eqb}
use Rattle.lists.specs.Lists.{EachPair}
use Rattle.lists.proofs.Laws.{Each-at}
use Rattle.board.specs.declared.Net.{Net}
use Rattle.board.specs.Job.{Job}
use Rattle.packing.specs.Walk.{choice_at}
use Rattle.std.specs.List.{position_from}
use Rattle.choice.specs.TrackPlans.{index_of, choices_of, track_plan_of}

-- has the number of net n
abbrev numbered : Net → Net → Bool
numbered n m = eqb m.number n.number

-- i is the index of net n
pub record IndexOf (ns : List Net) (n : Net) (i : ℕ) : Type 0 where
  pub below : i < length ns
  pub there : (d : Net) → get_or ns i d ≡ n

-- a net is found by its number, where the first net of the list has index i
pub index_from_lem : (ns : List Net) (n : Net) (i : ℕ) → EachPair (λ a b. a.number < b.number) ns → Memᴰ n ns →
    (k : ℕ) × (position_from (numbered n) i ns ≡ Some (i + k)) × IndexOf ns n k
index_from_lem [] n i rise m = absurd (Memᴰ.not-nil m)
index_from_lem (x ∷ xs) n i rise m =
    ⊎_elim
    (λ (q : n ≡ x).
    let e : i ≡ i + 0 = omega arith in (
      0,
      rw (eq-eqb x.number n.number (sym (ap (λ (y : Net). y.number) q))) (ap (λ (k : ℕ). Some k) e),
      record { below = omega arith; there = λ d. sym q },
    ))
    (λ m'.
    let l : x.number < n.number = Each-at (λ y. x.number < y.number) xs n rise.0 m' in
    let more = index_from_lem xs n (i + 1) rise.1 m' in
    let e : i + 1 + more.0 ≡ i + suc more.0 = omega arith in (
      suc more.0,
      rw (ne_eqb x.number n.number (λ (q : x.number ≡ n.number). omega arith)) (more.1 ∙ ap (λ (k : ℕ). Some k) e),
      record { below = omega (arith, more.2.below); there = more.2.there },
    ))
    (Memᴰ.cases_cons m)

-- where a net stands in the job
pub place : Job → Net → ℕ
place job n = unwrap_or (index_of job (Some n)) 0

pub index_of_lem : (job : Job) (n : Net) → EachPair (λ a b. a.number < b.number) job.nets → Memᴰ n job.nets →
    (index_of job (Some n) ≡ Some (place job n)) × IndexOf job.nets n (place job n)
unfolding index_of place index_from_lem
index_of_lem job n rise m =
    let found = index_from_lem job.nets n 0 rise m in
    let e : 0 + found.0 ≡ found.0 = omega arith in
    rw (found.1, e) (refl, found.2)

pub index_none : (job : Job) → index_of job None ≡ None
unfolding index_of
index_none job = refl

module _ (job : Job) (earlier : List ℕ) (t : ℕ) where
  choices_length : (k : ℕ) → length (choices_of job earlier t k) ≡ k
  unfolding choices_of
  choices_length zero = refl
  choices_length (suc k) = ap suc (choices_length k)

  choices_at : (k i : ℕ) (d : Option ℕ) → i < k → get_or (choices_of job earlier t k) i d ≡ index_of job (choice_at job earlier t (job.board.rows - (k - suc i)))
  unfolding choices_of
  choices_at zero i d h = absurd (omega arith)
  choices_at (suc k) zero d h = let e : k ≡ suc k - 1 = omega arith in ap (λ x. index_of job (choice_at job earlier t (job.board.rows - x))) e
  choices_at (suc k) (suc i) d h = let e : k - suc i ≡ suc k - suc (suc i) = omega arith in
      choices_at k i d (omega arith) ∙ ap (λ x. index_of job (choice_at job earlier t (job.board.rows - x))) e

  pub choice_row : (j : ℕ) (d : Option ℕ) → 1 ≤ j → j ≤ job.board.rows → get_or (track_plan_of job earlier t).choice (j - 1) d ≡ index_of job (choice_at job earlier t j)
  unfolding track_plan_of
  choice_row j d l h =
      let e : job.board.rows - (job.board.rows - suc (j - 1)) ≡ j = omega arith in
      get_or-append (choices_of job earlier t job.board.rows) _ d (j - 1) (omega (arith, choices_length job.board.rows)) ∙
      choices_at job.board.rows (j - 1) d (omega arith) ∙ ap (λ x. index_of job (choice_at job earlier t x)) e
