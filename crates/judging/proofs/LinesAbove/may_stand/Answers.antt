-- `judging::LinesAbove::may_stand` meets its contract: the tests taken are those of the definition. Assumes nothing.
use native.Mathlib.Omega.{arith}
use Rattle.board.proofs.ShortestShape.{fixed_rows}
use Rattle.judging.proofs.Rows.{drawn_rows}
use Rattle.judging.proofs.LinesAbove.may_stand.Goals as goal

pub covered-requires-clause-net_bound : goal.covered-requires-clause-net_bound
covered-requires-clause-net_bound c =
    let net = c.args.wire.found.net in
    omega (arith, fixed_rows net.board net.net net.net_in_range, net.board_in_range.rows_range)

pub rows_clear-requires : goal.rows_clear-requires
rows_clear-requires c =
    let f = drawn_rows c.args.wire in
    let e = c.covered.ensures in
    (c.args.wire.from_one, omega (arith, e, f.1))
