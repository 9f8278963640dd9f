-- Elements of a list by their places, elements that a key tells apart, and lists mapped. Assumes nothing.
use Prim.Native.Nat.{ℕ, zero, suc, ◌+◌, ◌≤◌, ◌<◌}
use mathlib.Core.Path.{◌≡◌, refl, sym, ap, ap₂, ◌∙◌}
use mathlib.Core.Logic.{⊎_elim}
use mathlib.Core.List.Memᴰ
use mathlib.Core.List.{List, [], ◌∷◌, ◌++◌, map, Memᴰ}
use native.Mathlib.Omega.{arith}
use native.Mathlib.Numerals.{add-one}
use lib.ListN.{length, get_or, take, drop, set}
use lib.Seq.{take-suc, length-take-le, get_or-take, take-take, split_at, get_or-set_same, get_or-set_other}
use lib.Dec.{eqb}
use borrow.Author.Tests.{eqb-true, eqb-false}
use Rattle.lists.specs.Lists.{Each, EachPair}
use Rattle.lists.proofs.Laws.{Each-at}
use Rattle.lists.proofs.Cases.{by_test}
use Rattle.lists.proofs.Joins.{pair_across}

module _ {A : Type 0} where
  -- one more of the first elements
  pub take_more : (xs : List A) (i : ℕ) (d : A) → i < length xs → take (i + 1) xs ≡ take i xs ++ (get_or xs i d ∷ [])
  take_more xs i d h = rw add-one (take-suc xs i d h)

  -- the element at a place is listed
  pub mem_at : (xs : List A) (i : ℕ) (d : A) → i < length xs → Memᴰ (get_or xs i d) xs
  mem_at [] i d h = absurd (omega arith)
  mem_at (x ∷ xs) zero d h = Memᴰ.head refl
  mem_at (x ∷ xs) (suc i) d h = Memᴰ.tail (mem_at xs i d (omega arith))

  -- an element of the first n
  pub mem_take : (xs : List A) (n i : ℕ) (d : A) → i < n → n ≤ length xs → Memᴰ (get_or xs i d) (take n xs)
  mem_take xs n i d h l =
      let k : i < length (take n xs) = omega (arith, length-take-le n xs l) in
      rw (get_or-take n xs i d h) at (mem_at (take n xs) i d k)

  -- where R holds of each pair of the first n, it holds of each element before place i and the one there
  pub pair_before : (R : A → A → Type 0) (xs : List A) (n i : ℕ) (d : A) → i < n → n ≤ length xs → EachPair R (take n xs) → Each (λ x. R x (get_or xs i d)) (take i xs)
  pair_before R xs n i d h l a =
      let k : i < length (take n xs) = omega (arith, length-take-le n xs l) in
      let e = split_at (take n xs) i d k in
      let t : take i (take n xs) ≡ take i xs = take-take i n xs (omega arith) in
      let g : get_or (take n xs) i d ≡ get_or xs i d = get_or-take n xs i d h in
      let p = rw e at a in
      rw (t, g) at (pair_across R (take i (take n xs)) (get_or (take n xs) i d) (drop (suc i) (take n xs)) p)

  -- elements with the same key are the same where all keys differ
  pub same_key : (key : A → ℕ) (xs : List A) → EachPair (λ x y. key x ≡ key y → ⊥) xs → (x y : A) → Memᴰ x xs → Memᴰ y xs
      → key x ≡ key y → x ≡ y
  same_key key [] p x y m n e = absurd (Memᴰ.not-nil m)
  same_key key (z ∷ zs) p x y m n e =
      ⊎_elim
      (λ (q : x ≡ z).
      ⊎_elim
      (λ (r : y ≡ z). q ∙ sym r)
      (λ n'. absurd (Each-at (λ w. key z ≡ key w → ⊥) zs y p.0 n' (sym (ap key q) ∙ e)))
      (Memᴰ.cases_cons n))
      (λ m'.
      ⊎_elim
      (λ (r : y ≡ z). absurd (Each-at (λ w. key z ≡ key w → ⊥) zs x p.0 m' (sym (ap key r) ∙ sym e)))
      (λ n'. same_key key zs p.1 x y m' n' e)
      (Memᴰ.cases_cons n))
      (Memᴰ.cases_cons m)

-- a mapped list: its element at a place, and by two functions that agree on the elements
pub map_at : {A : Type 0} (f : A → ℕ) (xs : List A) (i : ℕ) (d : A) → i < length xs → get_or (map f xs) i 0 ≡ f (get_or xs i d)
map_at f [] i d h = absurd (omega arith)
map_at f (x ∷ xs) zero d h = refl
map_at f (x ∷ xs) (suc i) d h = map_at f xs i d (omega arith)

pub map_same : {A B : Type 0} (f g : A → B) (xs : List A) → ((x : A) → Memᴰ x xs → f x ≡ g x) → map f xs ≡ map g xs
map_same f g [] h = refl
map_same f g (x ∷ xs) h = ap₂ ◌∷◌ (h x (Memᴰ.head refl)) (map_same f g xs (λ y m. h y (Memᴰ.tail m)))

-- what holds of the number stored at place i, and elsewhere of what stood there before, holds of the number at each place
pub set_each : (P : ℕ → ℕ → Type 0) (xs : List ℕ) (i v k : ℕ) → i < length xs → P i v → ((k ≡ i → ⊥) → P k (get_or xs k 0)) → P k (get_or (set xs i v) k 0)
set_each P xs i v k h here there =
    by_test (eqb k i) (λ t. let e : k ≡ i = eqb-true k i t in rw (e, get_or-set_same xs i v 0 h) here)
    (λ t. let d : k ≡ i → ⊥ = eqb-false k i t in rw (get_or-set_other xs i k v 0 d) (there d))
