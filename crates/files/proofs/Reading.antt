-- What was read, put behind what was read before, and what was written in an array of fixed size. Assumes nothing.
use Prim.Native.Nat.{ℕ, ◌+◌, ◌-◌, ◌≤◌}
use mathlib.Core.Path.{◌≡◌, sym, ap, ◌∙◌}
use mathlib.Core.List.{List, ◌++◌}
use Rattle.std.specs.Counts.{IsPrefixLen}
use Rattle.text.specs.Written.{Written}
use lib.ListN.{length, take}
use lib.Seq.{length-take-le, take-append-add}
use borrow.Rule.Slice.PartMut.{put_mid}
use Rattle.text.proofs.Writing.{back_rest, written_within}

-- a read into the rest of a buffer keeps what stands before that rest, and its bytes follow
pub read_more : (p n : ℕ) (s ys : List ℕ) → p ≤ length s → take (p + n) (put_mid p (length s - p) s ys) ≡ take p s ++ take n ys
read_more p n s ys h =
    let e : length (take p s) ≡ p = length-take-le p s h in
    ap (take (p + n)) (back_rest p s ys) ∙ ap (λ (k : ℕ). take (k + n) (take p s ++ ys)) (sym e) ∙ take-append-add (take p s) ys n

-- a text that was written is the first bytes of its array, as `TextBuffer` asks
pub written_prefix : {w s t : List ℕ} {r : ℕ} → Written w s t r → IsPrefixLen r t
written_prefix {w} {s} {t} {r} e = (written_within e, sym (length-take-le r t (written_within e)))
