-- The top rows of a net in a shape are those from `first_top` to `last_top`, and a placement at any allowed length holds one at the
-- shortest. Assumes nothing.
use Prim.Native.Nat.{ℕ, ◌+◌, ◌≤◌}
use mathlib.Core.Path.{◌≡◌, refl}
use mathlib.Core.Logic.{◌↔◌}
use native.Mathlib.Omega.{arith}
use Rattle.board.specs.declared.Board.{Board}
use Rattle.board.specs.declared.Net.{Net}
use Rattle.board.specs.declared.Shape.{Shape}
use Rattle.board.specs.Length.{Allowed, shortest, needed}
use Rattle.board.specs.Placement.{covered, Placement, shortest_at, bottom, Legal, first_top, last_top}
use Rattle.board.specs.TopRows.{InTops}
use Rattle.board.specs.Shrunk.{Shrunk, shrunk}
use Rattle.board.specs.Accepted.{NetInRange, AcceptedNet}
use Rattle.board.proofs.ShortestShape.{span_add, shortest_shorter, needed_covered, fixed_rows}

legal_tops : (board : Board) (p : Placement) → Legal board p → InTops board p
unfolding first_top last_top covered
legal_tops board p l =
    let e = span_add p.net in
    record { allowed = l.allowed; from_first = omega arith; to_last = omega arith }

tops_legal : (board : Board) (p : Placement) → InTops board p → Legal board p
unfolding first_top last_top covered
tops_legal board p i =
    let e = span_add p.net in
    record { allowed = i.allowed; from_one = omega arith; over_upper = omega arith; under_lower = omega arith; to_last = omega arith }

-- the placements of document 01 are those
pub legal_in_tops : (board : Board) (p : Placement) → Legal board p ↔ InTops board p
legal_in_tops board p = (legal_tops board p, tops_legal board p)

-- the first top is a row, whatever the stretch
pub first_top_one : (n : Net) (s : Shape) → 1 ≤ first_top n s
unfolding first_top
first_top_one n s = omega arith

-- a placement with its top at most the last one ends in row H, at the latest
pub last_top_room : (board : Board) (n : Net) (s : Shape) → covered n s ≤ board.rows → last_top board n s + covered n s ≤ board.rows + 1
unfolding last_top
last_top_room board n s h = omega arith

-- where a net fits into the rows of the board it has a top
pub some_top : (board : Board) (n : Net) (s : Shape) → NetInRange board n → covered n s ≤ board.rows → first_top n s ≤ last_top board n s
unfolding first_top last_top covered
some_top board n s r h =
    let f = fixed_rows board n r in
    let e = span_add n in
    omega arith

-- a top row is a row of the board, and leaves room for the rows covered
pub record TopInRange (board : Board) (n : Net) (s : Shape) (top : ℕ) : Type 0 where
  pub from_one : 1 ≤ top
  pub to_rows : top ≤ board.rows
  pub room : top + covered n s ≤ board.rows + 1

pub top_range : (board : Board) (n : Net) (s : Shape) (top : ℕ) → first_top n s ≤ top → top ≤ last_top board n s → TopInRange board n s top
unfolding first_top last_top covered
top_range board n s top a b = record { from_one = omega arith; to_rows = omega arith; room = omega arith }

-- the row below a placement
pub bottom_covered : (p : Placement) → bottom p + 1 ≡ p.top + covered p.net p.shape
unfolding covered
bottom_covered p = omega arith

-- an accepted net is allowed in its shortest shape
pub accepted_shortest : (board : Board) (n : Net) → AcceptedNet board n → Allowed board n (shortest board n)
accepted_shortest board n a = (shortest_shorter board n a.some_shape a.some_length).allowed

-- and fits into the rows of the board
pub accepted_fits : (board : Board) (n : Net) → AcceptedNet board n → covered n (shortest board n) ≤ board.rows
accepted_fits board n a =
    let e = needed_covered board n in
    omega arith

-- a shortest placement covers the net's needed rows
pub shortest_bottom : (board : Board) (n : Net) (top : ℕ) → bottom (shortest_at board n top) + 1 ≡ top + needed board n
shortest_bottom board n top = omega (arith, bottom_covered (shortest_at board n top), needed_covered board n)

-- a placement at any allowed length holds one at the shortest
pub shrink : (board : Board) (p : Placement) → Legal board p → Shrunk board p (shrunk board p)
shrink board p l =
    let s = shortest_shorter board p.net p.shape l.allowed in
    let e = span_add p.net in
    let down : p.top ≤ (shrunk board p).top = omega arith in
    let up : bottom (shrunk board p) ≤ bottom p = omega arith in
    record {
      same_net = refl;
      at_shortest = refl;
      legal = record { allowed = s.allowed; from_one = omega arith; over_upper = omega arith; under_lower = omega arith; to_last = omega arith };
      from_top = down;
      to_bottom = up;
      clear = λ job t c row a b. c row (omega arith) (omega arith);
    }
