-- `writer::loose_line` meets its contract: the line of one number with the word of a loose net. Assumes nothing.
use Rattle.writer.proofs.Lines.{loose_is}
use Rattle.writer.proofs.loose_line.Goals as goal

pub number_line-requires-clause-line_in_bounds : goal.number_line-requires-clause-line_in_bounds
number_line-requires-clause-line_in_bounds c = rw (← loose_is c.args.number) c.requires

pub returns : goal.returns
returns c = rw (loose_is c.args.number) c.number_line.ensures
