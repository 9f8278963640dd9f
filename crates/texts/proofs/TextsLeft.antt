-- The laws of the texts of an input: the first ends before the first byte 255, and the others are those of the bytes after it. Assumes nothing.
use mathlib.Core.Path.{◌≡◌, refl, sym, ap, ◌∙◌}
use mathlib.Core.Bool.{Bool}
use mathlib.Core.List.{List, [], ◌∷◌}
use Prim.Native.Nat.{ℕ, suc, ◌+◌, ◌-◌, ◌<◌, min}
use native.Mathlib.Omega.{arith}
use native.Mathlib.Decide.{dec_le}
use lib.ListN.{length, take, drop, length-drop, drop_of_length-le}
use lib.Seq.{take_all}
use Rattle.lists.proofs.Cases.{by_test}
use Rattle.text.specs.Bytes.{joined, pieces}
use Rattle.lines.specs.Places.{until, scan}
use Rattle.texts.specs.Ends.{ends_text, texts_of}

pub none_left : (s : List ℕ) → length s ≡ 0 → texts_of s ≡ []
unfolding pieces
none_left [] h = refl
none_left (b ∷ s) h = absurd (omega arith)

-- fewer texts are left after one of them
pub moves_on : {t : List ℕ} {ts us : List (List ℕ)} → ts ≡ t ∷ us → length us < length ts
moves_on e = rw e (omega arith)

first_piece : (f : ℕ → Bool) (t : List ℕ) → 0 < length t → pieces f t ≡ take (until f t) t ∷ pieces f (drop (suc (until f t)) t)
unfolding until pieces joined
first_piece f [] h = absurd (omega arith)
first_piece f (b ∷ []) h = by_test (f b) (λ e. rw e) (λ e. rw e)
first_piece f (b ∷ d ∷ t) h = by_test (f b) (λ e. rw e) (λ e. rw (e, first_piece f (d ∷ t) (omega arith)))

drop_within : (k : ℕ) (s : List ℕ) → drop (min k (length s)) s ≡ drop k s
drop_within k s =
    elim (dec_le k (length s)) [
      | yes h ↦ let e : min k (length s) ≡ k = omega arith in rw e
      | no h ↦ drop_of_length-le s {i = min k (length s)} (omega arith) ∙ sym (drop_of_length-le s {i = k} (omega arith))
    ]

-- the text that ends at a place, and the bytes after its byte 255
pub first_text : (s : List ℕ) (to k : ℕ) → 0 < length s → to ≡ scan ends_text s 0 → k ≡ min (to + 1) (length s) →
    texts_of s ≡ take to s ∷ texts_of (take (length s - k) (drop k s))
unfolding scan
first_text s to k h e m =
    let u : to ≡ until ends_text s = omega arith in
    let j : k ≡ min (suc (until ends_text s)) (length s) = omega arith in
    let a : take (length s - k) (drop k s) ≡ drop k s = take_all _ (drop k s) (omega (arith, length-drop k s)) in
    let d : drop k s ≡ drop (suc (until ends_text s)) s = ap (λ (i : ℕ). drop i s) j ∙ drop_within (suc (until ends_text s)) s in
    rw (a, d, u) (first_piece ends_text s h)
