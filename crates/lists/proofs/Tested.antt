-- A statement of every element or pair, and its test over a list: each gives the other. Assumes nothing.
use mathlib.Core.Path.{◌≡◌, refl}
use mathlib.Core.Bool.{Bool, true}
use mathlib.Core.List.{List, [], ◌∷◌}
use Rattle.lists.specs.Lists.{Each, EachPair, all_of, all_pairs}
use Rattle.lists.proofs.Cases.{and_split, and_both}

module _ {A : Type 0} where
  pub Each-of : {P : A → Type 0} (f : A → Bool) (xs : List A) → ((x : A) → f x ≡ true → P x) → all_of f xs ≡ true → Each P xs
  unfolding all_of
  Each-of f [] g h = tt
  Each-of f (x ∷ xs) g h = let s = and_split (f x) (all_of f xs) h in (g x s.0, Each-of f xs g s.1)

  pub EachPair-of : {R : A → A → Type 0} (f : A → A → Bool) (xs : List A) → ((x y : A) → f x y ≡ true → R x y) → all_pairs f xs ≡ true → EachPair R xs
  unfolding all_pairs
  EachPair-of f [] g h = tt
  EachPair-of f (x ∷ xs) g h =
      let s = and_split (all_of (f x) xs) (all_pairs f xs) h in
      (Each-of (f x) xs (g x) s.0, EachPair-of f xs g s.1)

  -- and back: a statement of every element passes the test of every element
  pub all_of-Each : {P : A → Type 0} (f : A → Bool) (xs : List A) → ((x : A) → P x → f x ≡ true) → Each P xs → all_of f xs ≡ true
  unfolding all_of
  all_of-Each f [] g a = refl
  all_of-Each f (x ∷ xs) g a = and_both (f x) (all_of f xs) (g x a.0) (all_of-Each f xs g a.1)

  pub all_pairs-EachPair : {R : A → A → Type 0} (f : A → A → Bool) (xs : List A) → ((x y : A) → R x y → f x y ≡ true) → EachPair R xs → all_pairs f xs ≡ true
  unfolding all_pairs
  all_pairs-EachPair f [] g a = refl
  all_pairs-EachPair f (x ∷ xs) g a = and_both (all_of (f x) xs) (all_pairs f xs) (all_of-Each (f x) xs (g x) a.0) (all_pairs-EachPair f xs g a.1)
