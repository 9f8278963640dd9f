-- Document 01, "Board and grid": the points of a drawing lie on the grid. They begin in column 0 at the row of the left pin; all points but
-- those at the two pins lie in the two columns of the track, on rows that the placement covers. Assumes nothing.
use Prim.Native.Nat.{ℕ, ◌≤◌}
use mathlib.Core.Path.{◌≡◌, refl}
use mathlib.Core.List.{List, [], ◌∷◌}
use native.Mathlib.Omega.{arith}
use lib.Dec.{ltb}
use Rattle.lists.specs.Lists.{Each}
use Rattle.lists.proofs.Cases.{by_test}
use Rattle.lists.proofs.Laws.{Each-map}
use Rattle.board.specs.declared.Board.{Board}
use Rattle.board.specs.declared.Shape.{Shape}
use Rattle.board.specs.declared.Shape.TheVariants.{Plain, Stretched}
use Rattle.board.specs.Length.{width, upper, lower}
use Rattle.board.specs.Placement.{Placement, Legal, bottom}
use Rattle.layout.specs.Tree.{Point}
use Rattle.layout.specs.Drawing.{via_column, wire_column, at, same_point, distinct_from, near_row, far_row, corners, points_on}

-- the point is in column 0 to W and in row 1 to H
pub record OnGrid (board : Board) (q : Point) : Type 0 where
  pub to_width : q.column ≤ width board
  pub from_row : 1 ≤ q.row
  pub to_row : q.row ≤ board.rows

-- the point is at the right pin, or in a column of track t on a row that p covers: the two vias and all between them
pub data AtPinOrTrack (board : Board) (t : ℕ) (p : Placement) (q : Point) : Type 0 where
  right_pin : q.column ≡ width board → q.row ≡ p.net.right.0 → AtPinOrTrack board t p q
  on_track : via_column t ≤ q.column → q.column ≤ wire_column t → p.top ≤ q.row → q.row ≤ bottom p → AtPinOrTrack board t p q

-- what holds of all points holds where equal neighbours are left out
pub distinct_each : (P : Point → Type 0) (p : Point) (qs : List Point) → Each P qs → Each P (distinct_from p qs)
unfolding distinct_from
distinct_each P p [] a = tt
distinct_each P p (q ∷ qs) a =
    by_test (same_point p q)
    (λ e. rw e (distinct_each P q qs a.1))
    (λ e. rw e (a.0, distinct_each P q qs a.1))

module _ (board : Board) (t : ℕ) (p : Placement) (low : 1 ≤ t) (high : t ≤ board.tracks) (l : Legal board p) where
  columns : (via_column t ≤ wire_column t) × (wire_column t ≤ width board)
  unfolding via_column wire_column width
  columns = (omega arith, omega arith)

  -- the rows of the two pins are covered
  left_covered : (p.top ≤ p.net.left.0) × (p.net.left.0 ≤ bottom p)
  unfolding upper lower
  left_covered = (omega (arith, l.over_upper), omega (arith, l.under_lower))

  right_covered : (p.top ≤ p.net.right.0) × (p.net.right.0 ≤ bottom p)
  unfolding upper lower
  right_covered = (omega (arith, l.over_upper), omega (arith, l.under_lower))

  -- and so are the two ends of the stretched part
  near_covered : (p.top ≤ near_row p) × (near_row p ≤ bottom p)
  unfolding near_row
  near_covered =
      let all = left_covered in
      by_test (ltb p.net.left.0 p.net.right.0) (λ e. rw e (omega arith, omega arith)) (λ e. rw e (omega arith, omega arith))

  far_covered : (p.top ≤ far_row p) × (far_row p ≤ bottom p)
  unfolding far_row
  far_covered =
      let all = left_covered in
      by_test (ltb p.net.left.0 p.net.right.0) (λ e. rw e (omega arith, omega arith)) (λ e. rw e (omega arith, omega arith))

  via : (row : ℕ) → (p.top ≤ row) × (row ≤ bottom p) → AtPinOrTrack board t p (at (via_column t) row)
  via row c = let k = columns in on_track (omega arith) (omega arith) c.0 c.1

  wired : (row : ℕ) → (p.top ≤ row) × (row ≤ bottom p) → AtPinOrTrack board t p (at (wire_column t) row)
  wired row c = let k = columns in on_track (omega arith) (omega arith) c.0 c.1

  corners_placed : (s : Shape) → Each (AtPinOrTrack board t p) (corners board t p s)
  unfolding corners
  corners_placed Plain = (via _ left_covered, (via _ right_covered, (right_pin refl refl, tt)))
  corners_placed (Stretched e) =
      (via _ left_covered, (via _ near_covered, (wired _ near_covered, (wired _ far_covered, (via _ far_covered, (via _ right_covered, (right_pin refl refl, tt)))))))

  -- the points behind the first, which is the left pin
  pub drawn_placed : Each (AtPinOrTrack board t p) (distinct_from (at 0 p.net.left.0) (corners board t p p.shape))
  drawn_placed = distinct_each (AtPinOrTrack board t p) (at 0 p.net.left.0) (corners board t p p.shape) (corners_placed p.shape)

  on_grid : (q : Point) → AtPinOrTrack board t p q → OnGrid board q
  on_grid q (right_pin c r) =
      let k = right_covered in
      record { to_width = omega arith; from_row = omega (arith, l.from_one); to_row = omega (arith, l.to_last) }
  on_grid q (on_track a b c d) =
      let k = columns in
      record { to_width = omega arith; from_row = omega (arith, l.from_one); to_row = omega (arith, l.to_last) }

  -- all points lie in columns 0 to W and rows 1 to H
  pub drawn_on_grid : Each (OnGrid board) (points_on board t p)
  unfolding points_on
  drawn_on_grid =
      let k = left_covered in (
        record { to_width = omega arith; from_row = omega (arith, l.from_one); to_row = omega (arith, l.to_last) },
        Each-map (distinct_from (at 0 p.net.left.0) (corners board t p p.shape)) on_grid drawn_placed,
      )
