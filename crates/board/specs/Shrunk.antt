-- A shape and a placement at the shortest allowed length, held by one at any allowed length. proofs/ShortestShape.antt and proofs/Tops.antt
-- show that there always is one.
use Rattle.std.specs.Prelude.{ℕ, ◌-◌, ◌≤◌, max, ◌≡◌}
use Rattle.board.specs.declared.Board.{Board}
use Rattle.board.specs.declared.Net.{Net}
use Rattle.board.specs.declared.Shape.{Shape}
use Rattle.board.specs.Length.{upper, extra, Allowed, shortest}
use Rattle.board.specs.Job.{Job}
use Rattle.board.specs.Placement.{Placement, shortest_at, bottom, Legal, Clear}

-- shape o is allowed and covers no more rows than shape s
pub record Shorter (board : Board) (n : Net) (s o : Shape) : Type 0 where
  pub allowed : Allowed board n o
  pub fewer : extra o ≤ extra s

-- q is a placement of p's net at its shortest allowed length, within the rows of p, and clear on every track where p is
pub record Shrunk (board : Board) (p q : Placement) : Type 0 where
  pub same_net : q.net ≡ p.net
  pub at_shortest : q.shape ≡ shortest board p.net
  pub legal : Legal board q
  pub from_top : p.top ≤ q.top
  pub to_bottom : bottom q ≤ bottom p
  pub clear : (job : Job) (t : ℕ) → Clear job t p → Clear job t q

-- the placement that p holds: its net at its shortest length, p's top kept where the shortest stretch reaches up to it, otherwise with its top
-- at a − e
abbrev pub shrunk : Board → Placement → Placement
shrunk board p = shortest_at board p.net (max p.top (upper p.net - extra (shortest board p.net)))
