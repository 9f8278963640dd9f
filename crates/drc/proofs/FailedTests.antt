-- What a test that fails tells. Assumes nothing.
use Prim.Native.Nat.{ℕ}
use mathlib.Core.Path.{◌≡◌, refl, sym, ◌∙◌}
use mathlib.Core.Logic.{◌⊎◌, inl, inr}
use mathlib.Core.Bool.{Bool, true, false, ◌&&◌, ◌||◌, true≢false}
use mathlib.Core.List.{List, Memᴰ}
use lib.Dec.{eqb}
use Rattle.lists.specs.Lists.{any_of}
use Rattle.lists.proofs.Cases.{by_test}
use Rattle.lists.proofs.Laws.{any_of_mem, mem_any_of}

pub and_fails : (a b : Bool) → (a && b) ≡ false → (a ≡ false) ⊎ (b ≡ false)
and_fails true b h = inr h
and_fails false b h = inl refl

pub or_fails : (a b : Bool) → (a || b) ≡ false → (a ≡ false) × (b ≡ false)
or_fails true b h = (h, absurd (true≢false h))
or_fails false b h = (refl, h)

-- a test does not pass and fail
pub passes_and_fails : {P : Type 0} (b : Bool) → b ≡ true → b ≡ false → P
passes_and_fails b p q = absurd (true≢false (sym p ∙ q))

-- a number that is not found is not listed
pub unlisted : (k : ℕ) (ks : List ℕ) → any_of (eqb k) ks ≡ false → Memᴰ k ks → ⊥
unlisted k ks h i = passes_and_fails (any_of (eqb k) ks) (mem_any_of k ks i) h

pub not_found : (k : ℕ) (ks : List ℕ) → (Memᴰ k ks → ⊥) → any_of (eqb k) ks ≡ false
not_found k ks f = by_test (any_of (eqb k) ks) (λ e. absurd (f (any_of_mem k ks e))) (λ e. e)
