-- The placement that a wire draws, worked out: document 01, "Drawing", and "Operations", check ("a wire that draws no placement of its
-- net covers no row and has no top").
use Rattle.std.specs.Prelude.{ℕ, ◌+◌, ◌/◌, Bool, true, false, cond, ◌&&◌, List, [], ◌∷◌, leb, Option, None, Some}
use Rattle.board.specs.declared.Board.{Board}
use Rattle.board.specs.declared.Net.{Net}
use Rattle.board.specs.Job.{Job}
use Rattle.board.specs.Placement.{Placement}
use Rattle.board.specs.Tests.{is_from_one, is_over_upper, is_under_lower, is_to_last}
use Rattle.layout.specs.declared.Point.{Point}
use Rattle.layout.specs.Tree.{Wire}
use Rattle.layout.specs.Drawing.{same_point, points_on}
use Rattle.layout.specs.Drawn.{placement_of, net_numbered}

-- the two lists have the same points
unfoldable pub same_points : List Point → List Point → Bool
same_points [] [] = true
same_points [] (q ∷ qs) = false
same_points (p ∷ ps) [] = false
same_points (p ∷ ps) (q ∷ qs) = same_point p q && same_points ps qs

-- the rows that a placement covers are rows 1 to H, and hold the fixed rows of its net
unfoldable pub is_on_board : Board → Placement → Bool
is_on_board board p = is_from_one p && is_over_upper p && is_under_lower p && is_to_last board p

-- the placement of net n that the points draw on track t, at any length: the one that they can draw, if drawing it gives the points
unfoldable pub drawn_of : Board → ℕ → List Point → Net → Option Placement
drawn_of board t ps n =
    let p = placement_of t n ps in
    cond (is_on_board board p && same_points (points_on board t p) ps) (Some p) None

-- the placement of a net that the points draw on track t, at any length; none where there is no net
unfoldable pub drawn_from : Board → ℕ → List Point → Option Net → Option Placement
drawn_from board t ps None = None
drawn_from board t ps (Some n) = drawn_of board t ps n

-- the placement that a wire draws on track t, at any length, if it draws one of its net
unfoldable pub drawn_by : Job → ℕ → Wire → Option Placement
drawn_by job t w = drawn_from job.board t w.points (net_numbered job w.number)

-- the track in whose via column the second point stands; 0 where there is no second point
unfoldable pub track_drawn : List Point → ℕ
track_drawn [] = 0
track_drawn (p ∷ []) = 0
track_drawn (p ∷ q ∷ ps) = (q.column + 1) / 2

-- the placement whose rows a wire covers: the one that it draws on a track of the board, whichever track that is
unfoldable pub covers_of : Job → Wire → Option Placement
covers_of job w =
    let t = track_drawn w.points in
    cond (leb 1 t && leb t job.board.tracks) (drawn_by job t w) None
