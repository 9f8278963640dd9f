-- `joblines::size_line` meets its contract: the line of one number with the word that is told. Assumes nothing.
use Rattle.joblines.proofs.Lines.{size_is}
use Rattle.joblines.proofs.size_line.Goals as goal

pub number_line-requires-clause-line_in_bounds : goal.number_line-requires-clause-line_in_bounds
number_line-requires-clause-line_in_bounds c = rw (← size_is c.args.i c.args.number) c.requires.number_in_bounds

pub returns : goal.returns
returns c = rw (size_is c.args.i c.args.number) c.number_line.ensures
