-- `joblines::weight_written` meets its contract. Assumes nothing.
use mathlib.Core.Path.{◌∙◌}
use Rattle.joblines.proofs.Lines.{weight_is}
use Rattle.joblines.proofs.weight_written.Goals as goal

pub returns : goal.returns
returns c = c.then_some.ensures ∙ rw c.needed.ensures (weight_is _ _)
