-- Sums over lists of numbers with the same elements, and over joined ones. Assumes nothing.
use Prim.Native.Nat.{ℕ, ◌+◌, ◌≤◌}
use mathlib.Core.Path.{◌≡◌, refl, sym, ◌∙◌}
use mathlib.Core.Logic.{⊎_elim}
use mathlib.Core.Bool.{cond}
use mathlib.Core.List.Memᴰ
use mathlib.Core.List.{List, [], ◌∷◌, ◌++◌, Memᴰ}
use native.Mathlib.Omega.{arith}
use lib.Dec.{eqb}
use lib.ListN.{length}
use borrow.Author.Tests.{eqb-true, eqb-false}
use Rattle.lists.specs.Lists.{EachPair}
use Rattle.lists.proofs.Cases.{by_test}
use Rattle.lists.proofs.Laws.{Each-at}
use Rattle.sound.specs.Wires.{sum_over}

abbrev pub Distinct : List ℕ → Type 0
Distinct xs = EachPair (λ j k. j ≡ k → ⊥) xs

-- the list without its first x
without : ℕ → List ℕ → List ℕ
without x [] = []
without x (y ∷ ys) = cond (eqb x y) ys (y ∷ without x ys)

module _ (f : ℕ → ℕ) where
  sum_without : (x : ℕ) (ys : List ℕ) → Memᴰ x ys → sum_over f ys ≡ f x + sum_over f (without x ys)
  unfolding without sum_over
  sum_without x [] m = absurd (Memᴰ.not-nil m)
  sum_without x (y ∷ ys) m =
      by_test (eqb x y)
      (λ e. rw (e, eqb-true x y e))
      (λ e. ⊎_elim
      (λ (q : x ≡ y). absurd (eqb-false x y e q))
      (λ (n : Memᴰ x ys). rw e (omega (arith, sum_without x ys n)))
      (Memᴰ.cases_cons m))

other_without : (x y : ℕ) (ys : List ℕ) → (x ≡ y → ⊥) → Memᴰ y ys → Memᴰ y (without x ys)
unfolding without
other_without x y [] d m = absurd (Memᴰ.not-nil m)
other_without x y (z ∷ ys) d m =
    by_test (eqb x z)
    (λ e. rw e (⊎_elim (λ (q : y ≡ z). absurd (d (eqb-true x z e ∙ sym q))) (λ n. n) (Memᴰ.cases_cons m)))
    (λ e. rw e (⊎_elim (λ (q : y ≡ z). Memᴰ.head q) (λ n. Memᴰ.tail (other_without x y ys d n)) (Memᴰ.cases_cons m)))

-- distinct elements of a list have no larger sum
pub sum_le : (f : ℕ → ℕ) (xs ys : List ℕ) → Distinct xs → ((x : ℕ) → Memᴰ x xs → Memᴰ x ys) → sum_over f xs ≤ sum_over f ys
unfolding sum_over
sum_le f [] ys d h = omega arith
sum_le f (x ∷ xs) ys d h =
    omega (
      arith,
      sum_without f x ys (h x (Memᴰ.head refl)),
      sum_le f xs (without x ys) d.1 (λ y m. other_without x y ys (Each-at (λ k. x ≡ k → ⊥) xs y d.0 m) (h y (Memᴰ.tail m))),
    )

pub sum_join : (f : ℕ → ℕ) (xs ys : List ℕ) → sum_over f (xs ++ ys) ≡ sum_over f xs + sum_over f ys
unfolding sum_over
sum_join f [] ys = omega arith
sum_join f (x ∷ xs) ys = omega (arith, sum_join f xs ys)

pub sum_ones : (xs : List ℕ) → sum_over (λ k. 1) xs ≡ length xs
unfolding sum_over
sum_ones [] = refl
sum_ones (x ∷ xs) = omega (arith, sum_ones xs)
