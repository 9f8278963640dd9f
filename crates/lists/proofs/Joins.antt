-- Statements and tests over the elements of lists joined or mapped. Assumes nothing.
use mathlib.Core.Path.{◌≡◌, refl, sym, ap, ◌∙◌}
use mathlib.Core.Bool.{Bool, false, ◌&&◌, ◌||◌, and_assoc, or_assoc, or_comm, true≢false}
use mathlib.Core.List.{List, [], ◌∷◌, ◌++◌, map, Memᴰ}
use Rattle.lists.specs.Lists.{Each, EachPair, any_of, all_of}
use Rattle.lists.proofs.Cases.{by_test}
use Rattle.lists.proofs.Laws.{Each-map, Each-both}

module _ {A : Type 0} where
  -- P holds of every element where it holds of each that is listed
  pub Each-each : {P : A → Type 0} (xs : List A) → ((x : A) → Memᴰ x xs → P x) → Each P xs
  Each-each [] f = tt
  Each-each (x ∷ xs) f = (f x (Memᴰ.head refl), Each-each xs (λ y m. f y (Memᴰ.tail m)))

  pub Each-join : (P : A → Type 0) (xs ys : List A) → Each P xs → Each P ys → Each P (xs ++ ys)
  Each-join P [] ys a b = b
  Each-join P (x ∷ xs) ys a b = (a.0, Each-join P xs ys a.1 b)

  pub Each-right : (P : A → Type 0) (xs ys : List A) → Each P (xs ++ ys) → Each P ys
  Each-right P [] ys a = a
  Each-right P (x ∷ xs) ys a = Each-right P xs ys a.1

  pub EachPair-join : (R : A → A → Type 0) (xs ys : List A) → EachPair R xs → EachPair R ys → Each (λ x. Each (R x) ys) xs → EachPair R (xs ++ ys)
  EachPair-join R [] ys a b c = b
  EachPair-join R (x ∷ xs) ys a b c = (Each-join (R x) xs ys a.0 c.0, EachPair-join R xs ys a.1 b c.1)

  -- an element of the first part and one of the second
  pub EachPair-across : (R : A → A → Type 0) (xs ys : List A) → EachPair R (xs ++ ys) → Each (λ x. Each (R x) ys) xs
  EachPair-across R [] ys a = tt
  EachPair-across R (x ∷ xs) ys a = (Each-right (R x) xs ys a.0, EachPair-across R xs ys a.1)

  -- the elements of the first part and the first one of the second
  pub pair_across : (R : A → A → Type 0) (xs : List A) (y : A) (ys : List A) → EachPair R (xs ++ (y ∷ ys)) → Each (λ x. R x y) xs
  pair_across R xs y ys p = Each-map xs (λ x (a : Each (R x) (y ∷ ys)). a.0) (EachPair-across R xs (y ∷ ys) p)

  pub EachPair-map : {R S : A → A → Type 0} (xs : List A) → ((x y : A) → R x y → S x y) → EachPair R xs → EachPair S xs
  EachPair-map [] f a = tt
  EachPair-map (x ∷ xs) f a = (Each-map xs (f x) a.0, EachPair-map xs f a.1)

  -- what two elements, each with P, have by R
  pub EachPair-both : {P : A → Type 0} {R S : A → A → Type 0} (xs : List A) → ((x y : A) → P x → P y → R x y → S x y) → Each P xs → EachPair R xs → EachPair S xs
  EachPair-both [] f a r = tt
  EachPair-both (x ∷ xs) f a r = (Each-both xs (λ y p q. f x y a.0 p q) a.1 r.0, EachPair-both xs f a.1 r.1)

pub Each-mapped : {A B : Type 0} (f : A → B) (P : B → Type 0) (xs : List A) → Each (λ x. P (f x)) xs → Each P (map f xs)
Each-mapped f P [] a = tt
Each-mapped f P (x ∷ xs) a = (a.0, Each-mapped f P xs a.1)

pub EachPair-mapped : {A B : Type 0} (f : A → B) (R : B → B → Type 0) (xs : List A) → EachPair (λ x y. R (f x) (f y)) xs → EachPair R (map f xs)
EachPair-mapped f R [] a = tt
EachPair-mapped f R (x ∷ xs) a = (Each-mapped f (R (f x)) xs a.0, EachPair-mapped f R xs a.1)

-- a test on all elements of two lists in a row
pub all_of_append : {A : Type 0} (f : A → Bool) (s t : List A) → all_of f (s ++ t) ≡ (all_of f s && all_of f t)
unfolding all_of
all_of_append f [] t = refl
all_of_append f (b ∷ s) t = rw (all_of_append f s t, and_assoc)

-- a test of some element, of a list and one element more
pub any_of_more : {A : Type 0} (f : A → Bool) (xs : List A) (x : A) → any_of f (xs ++ (x ∷ [])) ≡ (f x || any_of f xs)
unfolding any_of
any_of_more f [] x = refl
any_of_more f (y ∷ ys) x =
    rw (any_of_more f ys x) (sym (or_assoc (f y) (f x) (any_of f ys)) ∙ ap (λ t. t || any_of f ys) (or_comm (f y) (f x)) ∙ or_assoc (f x) (f y) (any_of f ys))

module _ {A : Type 0} where
  -- where a test of every element fails, it fails for one
  pub all_of_false : (f : A → Bool) (xs : List A) → all_of f xs ≡ false → (x : A) × Memᴰ x xs × (f x ≡ false)
  unfolding all_of
  all_of_false f [] h = absurd (true≢false h)
  all_of_false f (x ∷ xs) h =
      by_test (f x)
      (λ e. let r = all_of_false f xs (rw e at h) in (r.0, Memᴰ.tail r.1, r.2))
      (λ e. (x, Memᴰ.head refl, e))
