-- `BoardNet::last_top` meets its contract. Assumes nothing.
use native.Mathlib.Omega.{arith}
use Rattle.board.specs.Placement.{covered, last_top}
use Rattle.board.proofs.ShortestShape.{fixed_rows}
use Rattle.board.proofs.boardnet.BoardNet.last_top.Goals as goal

pub covered-requires : goal.covered-requires
unfolding covered
covered-requires c =
    let s = c in
    let f = fixed_rows s.args.self.board s.args.self.net s.args.self.net_in_range in
    omega arith

pub returns-then-a-last : goal.returns-then-a-last
unfolding last_top
returns-then-a-last c = omega arith

pub returns-else-a-last : goal.returns-else-a-last
unfolding last_top
returns-else-a-last c = omega arith
