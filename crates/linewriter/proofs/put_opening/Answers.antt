-- `linewriter::put_opening` meets its contract: what the rest of the buffer took stands at the place. Assumes nothing.
use Rattle.text.proofs.Writing.{at_rest}
use Rattle.linewriter.proofs.put_opening.Goals as goal

pub returns : goal.returns
returns c = at_rest _ _ _ _ _ c.opening_line.ensures
