-- The laws of texts as bytes: equality, the pieces between separators, tests on all bytes of a text. Assumes nothing.
use mathlib.Core.Path.{◌≡◌, refl, sym, ap, ◌∙◌}
use mathlib.Core.Bool.{Bool, true, false, not}
use mathlib.Core.List.{List, [], ◌∷◌, ◌++◌}
use Prim.Native.Nat.{ℕ, ◌+◌, ◌≤◌, ◌<◌}
use native.Mathlib.Omega.{arith}
use native.Mathlib.Numerals.{add-one}
use lib.ListN.{length, get_or, drop, drop_of_length-le}
use lib.Seq.{drop-cons}
use lib.Dec.{eqb}
use borrow.Author.Tests.{not-true, eq-eqb, ne_eqb, eqb-true}
use Rattle.std.specs.Cmp.Lexicographic.{pointwise}
use Rattle.lists.specs.Lists.{all_of}
use Rattle.lists.proofs.Cases.{by_test, and_split}
use Rattle.text.specs.Bytes.{same, joined, pieces, non_empty, lines}

-- `same` tells whether two texts are equal

pub same_refl : (s : List ℕ) → same s s ≡ true
unfolding same
same_refl [] = refl
same_refl (a ∷ s) = rw (eq-eqb a a refl, same_refl s)

pub same_true : (s t : List ℕ) → same s t ≡ true → s ≡ t
unfolding same
same_true [] [] e = refl
same_true [] (b ∷ t) e = cc
same_true (a ∷ s) [] e = cc
same_true (a ∷ s) (b ∷ t) e =
    let h = and_split (eqb a b) (same s t) e in
    cc (eqb-true a b h.0, same_true s t h.1)

pub same_eq : (s t : List ℕ) → s ≡ t → same s t ≡ true
same_eq s t e = ap (same s) (sym e) ∙ same_refl s

pub same_ne : (s t : List ℕ) → (s ≡ t → ⊥) → same s t ≡ false
same_ne s t h = by_test (same s t) (λ e. absurd (h (same_true s t e))) (λ e. e)

pub same_false : (s t : List ℕ) → same s t ≡ false → s ≡ t → ⊥
same_false s t e h = let z : ◌≡◌ {A = Bool} true false = sym (same_eq s t h) ∙ e in let o : ◌≡◌ {A = ℕ} 0 1 = cc in omega arith

-- what `==` of two slices of bytes says is that they are the same

pub compared : (s t : List ℕ) → pointwise eqb s t ≡ same s t
unfolding same
compared [] [] = refl
compared [] (b ∷ t) = refl
compared (a ∷ s) [] = refl
compared (a ∷ s) (b ∷ t) = rw (compared s t)

-- a comparison byte by byte: after j bytes that are the same, the rest decides

pub same_sizes : (s t : List ℕ) → (length s ≡ length t → ⊥) → same s t ≡ false
same_sizes s t h = same_ne s t (λ e. h (ap length e))

pub same_step : (s t : List ℕ) (j : ℕ) → j < length s → j < length t → get_or s j 0 ≡ get_or t j 0 → same (drop j s) (drop j t) ≡ same (drop (j + 1) s) (drop (j + 1) t)
unfolding same
same_step s t j h k e = rw (add-one j, drop-cons s j 0 h, drop-cons t j 0 k, eq-eqb (get_or s j 0) (get_or t j 0) e)

pub same_differs : (s t : List ℕ) (j : ℕ) → j < length s → j < length t → (get_or s j 0 ≡ get_or t j 0 → ⊥) → same (drop j s) (drop j t) ≡ false
unfolding same
same_differs s t j h k e = rw (drop-cons s j 0 h, drop-cons t j 0 k, ne_eqb (get_or s j 0) (get_or t j 0) e)

pub same_end : (s t : List ℕ) (j : ℕ) → length s ≤ j → length t ≤ j → same (drop j s) (drop j t) ≡ true
unfolding same
same_end s t j h k = rw (drop_of_length-le s h, drop_of_length-le t k)

-- pieces: one that a separator ends, and a last one

pub piece_then : (f : ℕ → Bool) (w : List ℕ) (c : ℕ) (rest : List ℕ) → all_of (λ b. not (f b)) w ≡ true → f c ≡ true → pieces f (w ++ c ∷ rest) ≡ w ∷ pieces f rest
unfolding all_of pieces joined
piece_then f [] c rest a e = rw e
piece_then f (b ∷ w) c rest a e =
    let h = and_split (not (f b)) (all_of (λ b. not (f b)) w) a in
    rw (not-true (f b) h.0, piece_then f w c rest h.1 e)

pub piece_last : (f : ℕ → Bool) (w : List ℕ) → all_of (λ b. not (f b)) w ≡ true → 1 ≤ length w → pieces f w ≡ w ∷ []
unfolding pieces joined all_of
piece_last f [] a h = absurd (omega arith)
piece_last f (b ∷ []) a h = rw (not-true (f b) (and_split (not (f b)) true a).0)
piece_last f (b ∷ d ∷ w) a h =
    let k = and_split (not (f b)) (all_of (λ b. not (f b)) (d ∷ w)) a in
    rw (not-true (f b) k.0, piece_last f (d ∷ w) k.1 (omega arith))

pub non_empty_some : (w : List ℕ) (ps : List (List ℕ)) → 1 ≤ length w → non_empty (w ∷ ps) ≡ w ∷ non_empty ps
unfolding non_empty
non_empty_some [] ps h = absurd (omega arith)
non_empty_some (b ∷ w) ps h = refl

-- an empty line is a line
pub empty_line : lines (97 ∷ 10 ∷ 10 ∷ 98 ∷ []) ≡ (97 ∷ []) ∷ [] ∷ (98 ∷ []) ∷ []
unfolding pieces joined
empty_line = refl

-- an empty last piece is none
pub empty_last : lines (97 ∷ 10 ∷ []) ≡ (97 ∷ []) ∷ []
unfolding pieces joined
empty_last = refl
