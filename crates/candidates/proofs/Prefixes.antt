-- One more element of an array that a loop fills from its start. Assumes nothing.
use Prim.Native.Nat.{ℕ, suc, ◌+◌, ◌-◌, ◌<◌}
use mathlib.Core.Path.{◌≡◌, sym, ◌∙◌}
use mathlib.Core.List.{List, [], ◌∷◌, ◌++◌, append_assoc}
use native.Mathlib.Omega.{arith}
use lib.ListN.{length, get_or, set, drop, replicate, length-append}
use lib.Seq.{set-append_seam, drop-cons}
use Rattle.candidates.specs.Placed.{padded}

pub padded_more : {A : Type 0} (d : A) (i : ℕ) (v : A) (xs : List A) → length xs ≡ i → i < 512 → set (padded d xs) i v ≡ padded d (xs ++ (v ∷ []))
unfolding padded
padded_more d i v xs l h =
    let m : length (xs ++ (v ∷ [])) ≡ suc i = length-append xs (v ∷ []) ∙ omega arith in
    let e : 512 - length xs ≡ suc (512 - suc i) = omega arith in
    rw (e, m, ← l) (set-append_seam xs d (replicate (512 - suc (length xs)) d) v ∙ sym (append_assoc xs (v ∷ []) (replicate (512 - suc (length xs)) d)))

-- over what the array held
pub over_more : {A : Type 0} (d : A) (i : ℕ) (v : A) (xs old : List A) → length xs ≡ i → i < length old
    → set (xs ++ drop i old) i v ≡ (xs ++ (v ∷ [])) ++ drop (i + 1) old
over_more d i v xs old l h =
    let e : i + 1 ≡ suc i = omega arith in
    rw (e, drop-cons old i d h, ← l)
    (set-append_seam xs (get_or old (length xs) d) (drop (suc (length xs)) old) v ∙ sym (append_assoc xs (v ∷ []) (drop (suc (length xs)) old)))
