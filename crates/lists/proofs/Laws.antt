-- The laws of the statements and tests over lists. Assumes nothing.
use mathlib.Core.Path.{◌≡◌, refl, sym, ap, ◌∙◌}
use mathlib.Core.Logic.{⊎_elim}
use mathlib.Core.Bool.{Bool, true, false, false≢true, or-true}
use Rattle.std.specs.Prelude.{None, Some}
use mathlib.Core.List.Memᴰ
use mathlib.Core.List.{List, [], ◌∷◌, Memᴰ}
use Prim.Native.Nat.{ℕ}
use lib.Dec.{eqb}
use borrow.Author.Tests.{eqb-true, eq-eqb}
use Rattle.lists.specs.Lists.{Each, any_of, all_of, first_of}
use Rattle.lists.proofs.Cases.{by_test, and_split, and_both}
use Rattle.std.proofs.lemmas.Option.{none-some, same_Some}

module _ {A : Type 0} where
  pub Each-map : {P Q : A → Type 0} (xs : List A) → ((x : A) → P x → Q x) → Each P xs → Each Q xs
  Each-map [] f a = tt
  Each-map (x ∷ xs) f a = (f x a.0, Each-map xs f a.1)

  pub Each-both : {P Q R : A → Type 0} (xs : List A) → ((x : A) → P x → Q x → R x) → Each P xs → Each Q xs → Each R xs
  Each-both [] f a b = tt
  Each-both (x ∷ xs) f a b = (f x a.0 b.0, Each-both xs f a.1 b.1)

  pub Each-at : (P : A → Type 0) (xs : List A) (x : A) → Each P xs → Memᴰ x xs → P x
  Each-at P [] x a m = absurd (Memᴰ.not-nil m)
  Each-at P (y ∷ ys) x a m = ⊎_elim (λ (q : x ≡ y). rw q a.0) (λ m'. Each-at P ys x a.1 m') (Memᴰ.cases_cons m)

  pub all_of_at : (f : A → Bool) (xs : List A) (x : A) → all_of f xs ≡ true → Memᴰ x xs → f x ≡ true
  unfolding all_of
  all_of_at f [] x h m = absurd (Memᴰ.not-nil m)
  all_of_at f (y ∷ ys) x h m =
      let s = and_split (f y) (all_of f ys) h in
      ⊎_elim (λ q. ap f q ∙ s.0) (λ m'. all_of_at f ys x s.1 m') (Memᴰ.cases_cons m)

  pub all_of_of : (f : A → Bool) (xs : List A) → ((x : A) → Memᴰ x xs → f x ≡ true) → all_of f xs ≡ true
  unfolding all_of
  all_of_of f [] h = refl
  all_of_of f (y ∷ ys) h =
      and_both (f y) (all_of f ys) (h y (Memᴰ.head refl)) (all_of_of f ys (λ x m. h x (Memᴰ.tail m)))

  -- what `first_of` answers
  pub first_of_some : (f : A → Bool) (xs : List A) (x : A) → first_of f xs ≡ Some x → (Memᴰ x xs) × (f x ≡ true)
  unfolding first_of
  first_of_some f [] x h = absurd (none-some x h)
  first_of_some f (y ∷ ys) x h =
      by_test (f y)
      (λ e. let q : x ≡ y = same_Some x y (sym (rw e at h)) in (Memᴰ.head q, ap f q ∙ e))
      (λ e. let r = first_of_some f ys x (rw e at h) in (Memᴰ.tail r.0, r.1))

  pub first_of_none : (f : A → Bool) (xs : List A) (x : A) → first_of f xs ≡ None → Memᴰ x xs → f x ≡ false
  unfolding first_of
  first_of_none f [] x h m = absurd (Memᴰ.not-nil m)
  first_of_none f (y ∷ ys) x h m =
      by_test (f y)
      (λ e. absurd (none-some y (sym (rw e at h))))
      (λ e. ⊎_elim (λ q. ap f q ∙ e) (λ m'. first_of_none f ys x (rw e at h) m') (Memᴰ.cases_cons m))

-- a number is listed
pub any_of_mem : (x : ℕ) (xs : List ℕ) → any_of (eqb x) xs ≡ true → Memᴰ x xs
unfolding any_of
any_of_mem x [] h = absurd (false≢true h)
any_of_mem x (y ∷ ys) h =
    by_test (eqb x y)
    (λ e. Memᴰ.head (eqb-true x y e))
    (λ e. Memᴰ.tail (any_of_mem x ys (rw e at h)))

pub mem_any_of : (x : ℕ) (xs : List ℕ) → Memᴰ x xs → any_of (eqb x) xs ≡ true
unfolding any_of
mem_any_of x [] m = absurd (Memᴰ.not-nil m)
mem_any_of x (y ∷ ys) m =
    ⊎_elim (λ q. rw (eq-eqb x y q)) (λ m'. rw (mem_any_of x ys m') (or-true (eqb x y))) (Memᴰ.cases_cons m)
