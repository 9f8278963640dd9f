-- Statements and tests over all the elements of a list. The library has `Memᴰ x xs`, x is an element of xs; these stand beside it.
use Rattle.std.specs.Prelude.{Bool, false, cond, ◌&&◌, ◌||◌, Option, None, Some}
use Rattle.std.proofs.Math.Bool.{true}
use mathlib.Core.List.{List, [], ◌∷◌}

module _ {A : Type 0} where
  -- P holds of every element
  abbrev pub Each : (A → Type 0) → List A → Type 0
  Each P [] = Unit {0}
  Each P (x ∷ xs) = P x × Each P xs

  -- R holds of every element and each later one
  abbrev pub EachPair : (A → A → Type 0) → List A → Type 0
  EachPair R [] = Unit {0}
  EachPair R (x ∷ xs) = Each (R x) xs × EachPair R xs

  -- the test passes for some element
  unfoldable pub any_of : (A → Bool) → List A → Bool
  any_of f [] = false
  any_of f (x ∷ xs) = f x || any_of f xs

  -- the test passes for every element
  unfoldable pub all_of : (A → Bool) → List A → Bool
  all_of f [] = true
  all_of f (x ∷ xs) = f x && all_of f xs

  -- the test passes for every element and each later one
  unfoldable pub all_pairs : (A → A → Bool) → List A → Bool
  unfolding all_of
  all_pairs f [] = true
  all_pairs f (x ∷ xs) = all_of (f x) xs && all_pairs f xs

  -- the first element that passes the test, if any does
  unfoldable pub first_of : (A → Bool) → List A → Option A
  first_of f [] = None
  first_of f (x ∷ xs) = cond (f x) (Some x) (first_of f xs)
