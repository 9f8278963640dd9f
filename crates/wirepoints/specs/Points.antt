-- The points of a wire in the parts that the writers write.
use Rattle.std.specs.Prelude.{ℕ, ◌+◌, ◌≤◌, cond, List, [], ◌∷◌, ◌++◌}
use Rattle.text.specs.Digits.{digits}
use Rattle.board.specs.declared.Board.{Board}
use Rattle.board.specs.declared.Net.{Net}
use Rattle.board.specs.declared.Row.{Row}
use Rattle.board.specs.declared.Shape.{Shape}
use Rattle.board.specs.declared.Track.{Track}
use Rattle.board.specs.Length.{extra}
use Rattle.board.specs.Placement.{placement_at}
use Rattle.board.specs.Accepted.{BoardInRange, NetInRange}
use Rattle.layout.specs.declared.Point.{Point}
use Rattle.layout.specs.Drawing.{at, same_point, corners}

-- a point, " (column row)"
unfoldable pub point_text : Point → List ℕ
point_text p = 32 ∷ 40 ∷ (digits p.column ++ (32 ∷ (digits p.row ++ (41 ∷ []))))

-- point q behind point p: left out where the two are equal
unfoldable pub next_text : Point → Point → List ℕ
next_text p q = cond (same_point p q) [] (point_text q)

-- points behind point p, each left out where it is equal to the one before
unfoldable pub path_text : Point → List Point → List ℕ
path_text p [] = []
path_text p (q ∷ qs) = next_text p q ++ path_text q qs

-- the points of a wire: the left pin at row l, and what stands behind it
unfoldable pub pin_text : ℕ → List Point → List ℕ
pin_text l qs = point_text (at 0 l) ++ path_text (at 0 l) qs

-- the points behind the left pin of a plain wire: via column c, right pins in column w, pins at rows l and r
abbrev pub plain_path : ℕ → ℕ → ℕ → ℕ → List Point
plain_path c w l r = at c l ∷ at c r ∷ at w r ∷ []

-- the points behind the left pin of a stretched wire: the same columns and rows, and the stretched part from row u to row v
abbrev pub stretched_path : ℕ → ℕ → ℕ → ℕ → ℕ → ℕ → List Point
stretched_path c w l r u v = at c l ∷ at c u ∷ at (c + 1) u ∷ at (c + 1) v ∷ at c v ∷ at c r ∷ at w r ∷ []

-- the points of a placement on a track
abbrev pub points_text : Board → Track → Net → Shape → Row → List ℕ
points_text board track net shape top = pin_text net.left.0 (corners board track.0 (placement_at net shape top.0) shape)

-- the numbers of a placement on a track are small enough to be drawn: nothing overflows
pub record Drawable (board : Board) (track : Track) (net : Net) (shape : Shape) (top : Row) : Type 0 where
  pub board_range : BoardInRange board
  pub net_range : NetInRange board net
  pub track_range : (1 ≤ track.0) × (track.0 ≤ 128)
  pub stretch_range : extra shape ≤ 4096
  pub top_range : top.0 ≤ 1024
