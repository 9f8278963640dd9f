-- Document 01, "Drawing": the points of a placement on a track.
use Rattle.std.specs.Prelude.{ℕ, ◌+◌, ◌*◌, ◌-◌, Bool, cond, ◌&&◌, List, [], ◌∷◌, eqb, ltb}
use Rattle.board.specs.declared.Board.{Board}
use Rattle.board.specs.declared.Shape.{Shape}
use Rattle.board.specs.declared.Shape.TheVariants.{Plain, Stretched}
use Rattle.board.specs.Length.{width}
use Rattle.board.specs.Placement.{Placement, bottom}
use Rattle.layout.specs.Tree.{Point, Wire}

-- the via column of track t, 2t − 1
unfoldable pub via_column : ℕ → ℕ
via_column t = 2 * t - 1

-- the wire column of track t, 2t
unfoldable pub wire_column : ℕ → ℕ
wire_column t = 2 * t

-- the point (column row)
abbrev pub at : ℕ → ℕ → Point
at c r = record { column = c; row = r }

-- the two points are equal
unfoldable pub same_point : Point → Point → Bool
same_point p q = eqb p.column q.column && eqb p.row q.row

-- the points without each that is equal to the one before it, where p stands before the first
unfoldable pub distinct_from : Point → List Point → List Point
distinct_from p [] = []
distinct_from p (q ∷ qs) = let rest = distinct_from q qs in cond (same_point p q) rest (q ∷ rest)

-- the row of the stretched part next to the left pin: r with L < R, s with L > R
unfoldable pub near_row : Placement → ℕ
near_row p = cond (ltb p.net.left.0 p.net.right.0) p.top (bottom p)

-- the row of the stretched part next to the right pin: s with L < R, r with L > R
unfoldable pub far_row : Placement → ℕ
far_row p = cond (ltb p.net.left.0 p.net.right.0) (bottom p) p.top

-- the points after the left pin, equal neighbours not yet left out
unfoldable pub corners : Board → ℕ → Placement → Shape → List Point
corners board t p Plain =
    at (via_column t) p.net.left.0 ∷ at (via_column t) p.net.right.0 ∷ at (width board) p.net.right.0 ∷ []
corners board t p (Stretched e) =
    at (via_column t) p.net.left.0 ∷ at (via_column t) (near_row p) ∷ at (wire_column t) (near_row p) ∷
    at (wire_column t) (far_row p) ∷ at (via_column t) (far_row p) ∷ at (via_column t) p.net.right.0 ∷ at (width board) p.net.right.0 ∷ []

-- the points of p on track t
unfoldable pub points_on : Board → ℕ → Placement → List Point
points_on board t p = let pin = at 0 p.net.left.0 in pin ∷ distinct_from pin (corners board t p p.shape)

-- the wire that draws p on track t
unfoldable pub wire_of : Board → ℕ → Placement → Wire
wire_of board t p = record { number = p.net.number; points = points_on board t p }

-- how far two columns, or two rows, are apart: |a − b|
unfoldable pub between : ℕ → ℕ → ℕ
between a b = (a - b) + (b - a)

-- the length of a path that goes on from point p: its segments add up
unfoldable pub path_from : Point → List Point → ℕ
path_from p [] = 0
path_from p (q ∷ qs) = between p.column q.column + between p.row q.row + path_from q qs

-- the length of a path of points
unfoldable pub path_length : List Point → ℕ
path_length [] = 0
path_length (p ∷ ps) = path_from p ps
