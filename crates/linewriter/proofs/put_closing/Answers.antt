-- `linewriter::put_closing` meets its contract: what the rest of the buffer took stands at the place. Assumes nothing.
use Rattle.text.proofs.Writing.{at_rest}
use Rattle.linewriter.proofs.put_closing.Goals as goal

pub returns : goal.returns
returns c = at_rest _ _ _ _ _ c.closing_line.ensures
