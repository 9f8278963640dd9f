-- `drawnwires::draws` meets its contract: the line is written and compared up to its byte 10. Assumes nothing.
use Rattle.std.proofs.Common.{arith}
use Rattle.drawnwires.proofs.Drawn.{drawable_on, line_fits, line_bytes, same_is}
use Rattle.drawnwires.proofs.draws.Goals as goal

pub wire_line-n-requires-clause-drawable : goal.wire_line-n-requires-clause-drawable
wire_line-n-requires-clause-drawable c = drawable_on c.requires

pub wire_line-n-requires-clause-top_in_bounds : goal.wire_line-n-requires-clause-top_in_bounds
wire_line-n-requires-clause-top_in_bounds c = omega (arith, line_fits c.requires)

pub returns : goal.returns
returns c = let e = line_bytes c.args.net.board c.args.net.net c.args.wired _ _ _ c.wire_line-n.ensures in grind (arith, same_is)
