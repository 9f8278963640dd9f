-- Numbers that are new one after another are distinct. Assumes nothing.
use Prim.Native.Nat.{ℕ}
use mathlib.Core.Path.{sym}
use mathlib.Core.List.Memᴰ
use mathlib.Core.List.{List, [], ◌∷◌, ◌++◌, append_assoc, append-nil, Memᴰ}
use Rattle.lists.specs.Lists.{Each}
use Rattle.lists.proofs.Laws.{Each-map}
use Rattle.sound.proofs.Sums.{Distinct}

-- each of the numbers is none of those above it, of which `on` stand above all of them
abbrev pub NewEach : List ℕ → List ℕ → Type 0
NewEach on [] = Unit {0}
NewEach on (k ∷ ks) = (Memᴰ k on → ⊥) × NewEach (on ++ (k ∷ [])) ks

pub new_join : (on xs ys : List ℕ) → NewEach on xs → NewEach (on ++ xs) ys → NewEach on (xs ++ ys)
new_join on [] ys a b = rw (append-nil on) at b
new_join on (x ∷ xs) ys a b = (a.0, new_join (on ++ (x ∷ [])) xs ys a.1 (rw (append_assoc on (x ∷ []) xs) b))

new_outside : (on xs : List ℕ) → NewEach on xs → Each (λ k. Memᴰ k on → ⊥) xs
new_outside on [] a = tt
new_outside on (x ∷ xs) a = (a.0, Each-map xs (λ k f m. f (Memᴰ.append_left (x ∷ []) m)) (new_outside (on ++ (x ∷ [])) xs a.1))

pub new_distinct : (on xs : List ℕ) → NewEach on xs → Distinct xs
new_distinct on [] a = tt
new_distinct on (x ∷ xs) a = (
  Each-map xs (λ k f e. f (Memᴰ.append_right on (Memᴰ.head (sym e)))) (new_outside (on ++ (x ∷ [])) xs a.1),
  new_distinct (on ++ (x ∷ [])) xs a.1,
)
