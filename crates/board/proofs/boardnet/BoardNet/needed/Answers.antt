-- `BoardNet::needed` meets its contract. Assumes nothing.
use native.Mathlib.Omega.{arith}
use mathlib.Core.Path.{ap}
use Rattle.board.specs.Length.{extra, needed}
use Rattle.board.specs.Placement.{covered}
use Rattle.board.proofs.ShortestShape.{fixed_rows, stretch_range}
use Rattle.board.proofs.boardnet.BoardNet.needed.Goals as goal

pub covered-requires : goal.covered-requires
covered-requires c =
    let s = c in
    let f = fixed_rows s.args.self.board s.args.self.net s.args.self.net_in_range in
    let e = stretch_range s.args.self.board s.args.self.net s.args.self.board_in_range s.args.self.net_in_range in
    omega (arith, ap extra c.shortest-least.ensures)

pub returns : goal.returns
unfolding needed covered
returns c = omega (arith, ap extra c.shortest-least.ensures)
