-- The rows that a wire is drawn over, and the answer of a search for a blocked one. Assumes nothing.
use Prim.Native.Nat.{ℕ, ◌+◌, ◌-◌, ◌≤◌, ◌<◌}
use mathlib.Core.Path.{◌≡◌, sym, ◌∙◌}
use mathlib.Core.Bool.{Bool, true, false}
use mathlib.Core.List.{List}
use native.Mathlib.Omega.{arith}
use lib.ListN.{length, get_or}
use Rattle.std.specs.Bool.{MatchBool}
use Rattle.std.specs.List.{range_with_len, AllWithin, HoldsAt}
use Rattle.std.proofs.lemmas.List.FromFn.{length-range_with_len, get_or-range_with_len}
use Rattle.blockmap.specs.Bits.{is_set}
use Rattle.blockmap.specs.Clear.{all_unset}
use Rattle.blockmap.proofs.ClearRows.{clear_of, blocked_in}
use Rattle.board.specs.declared.Net.{Net}
use Rattle.board.specs.declared.Shape.{Shape}
use Rattle.board.specs.Length.{span, extra}
use Rattle.board.specs.Placement.{covered}
use Rattle.judging.specs.declared.found.WireDrawn.{WireDrawn}

-- the rows of a wire that is drawn on the board
pub drawn_rows : (w : WireDrawn) → (extra w.wired.shape ≤ 2048) × (w.wired.top.0 + covered w.found.net.net w.wired.shape ≤ 1025)
unfolding covered
drawn_rows w =
    let r = w.found.net.board_in_range.rows_range in
    (omega (arith, w.to_last), omega (arith, w.to_last))

-- the lowest row is that of the placement
pub lowest_row : (top : ℕ) (n : Net) (s : Shape) → top + covered n s - 1 ≡ top + span n + extra s
unfolding covered
lowest_row top n s = omega arith

-- what a search for a blocked row answers
pub clear_answer : (words : List ℕ) (top m : ℕ) (r : Bool) →
    MatchBool r (AllWithin (λ row. is_set words row ≡ false) (range_with_len top m) 0 (length (range_with_len top m)))
    ((k : ℕ) × (k < length (range_with_len top m)) × HoldsAt (λ row. is_set words row ≡ true) (range_with_len top m) k) →
    r ≡ all_unset words top m
clear_answer words top m true f =
    sym (clear_of words top m (λ row a b.
    let i : row - top < m = omega arith in
    let z : top + (row - top) ≡ row = omega arith in
    let e : get_or (range_with_len top m) (row - top) 0 ≡ row = get_or-range_with_len top m (row - top) 0 i ∙ z in
    rw e at (f (row - top) 0 (omega arith) (omega (arith, length-range_with_len top m)))))
clear_answer words top m false f =
    let i : f.0 < m = omega (arith, f.1, length-range_with_len top m) in
    let e = get_or-range_with_len top m f.0 0 i in
    sym (blocked_in words top m (top + f.0) (omega arith) (omega arith) (rw e at (f.2 0)))
