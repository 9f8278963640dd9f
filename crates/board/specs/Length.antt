-- Document 01, "Length, stretch and needed rows": the lengths of a net, the shortest allowed one, the rows it needs.
use Rattle.std.specs.Prelude.{ℕ, ◌+◌, ◌*◌, ◌-◌, ◌/◌, ◌≤◌, min, max, cond, leb}
use Rattle.board.specs.declared.Board.{Board}
use Rattle.board.specs.declared.Net.{Net}
use Rattle.board.specs.declared.Shape.{Shape}
use Rattle.board.specs.declared.Shape.TheVariants.{Plain, Stretched}

-- W = 2K + 1, the column of the right pins
unfoldable pub width : Board → ℕ
width board = 2 * board.tracks + 1

-- a = min(L, R), the upper of the fixed rows
unfoldable pub upper : Net → ℕ
upper n = min n.left.0 n.right.0

-- b = max(L, R), the lower of the fixed rows
unfoldable pub lower : Net → ℕ
lower n = max n.left.0 n.right.0

-- |L − R|
unfoldable pub span : Net → ℕ
unfolding upper lower
span n = lower n - upper n

-- D = W + |L − R|
unfoldable pub plain_length : Board → Net → ℕ
plain_length board n = width board + span n

-- e, the rows that a shape covers beside the fixed ones; 0 if plain
abbrev pub extra : Shape → ℕ
extra Plain = 0
extra (Stretched e) = e

-- the length of a net in a shape: D if plain, D + 2e + 2 with stretch e; these are its possible lengths
abbrev pub length_of : Board → Net → Shape → ℕ
length_of board n Plain = plain_length board n
length_of board n (Stretched e) = plain_length board n + 2 * e + 2

-- the length of the net in this shape is allowed: min ≤ length ≤ max
pub record Allowed (board : Board) (n : Net) (s : Shape) : Type 0 where
  pub long : n.min ≤ length_of board n s
  pub short : length_of board n s ≤ n.max

-- the shape of the shortest allowed length, where any is allowed: D if D ≥ min, otherwise e = ceil((min − D) / 2) − 1
unfoldable pub shortest : Board → Net → Shape
shortest board n =
    cond (leb n.min (plain_length board n)) Plain (Stretched ((n.min - plain_length board n + 1) / 2 - 1))

-- n, the needed rows: |L − R| + 1, plus e if stretched
unfoldable pub needed : Board → Net → ℕ
needed board n = span n + 1 + extra (shortest board n)
