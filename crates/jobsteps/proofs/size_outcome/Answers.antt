-- `jobsteps::size_outcome` meets its contract: refusal 3 of H or K. Assumes nothing.
use mathlib.Core.Path.{sym, ◌∙◌}
use Rattle.jobsteps.proofs.Taking.{size_refused, size_passed}
use Rattle.jobsteps.proofs.size_outcome.Goals as goal

pub returns-then-not-is_within : goal.returns-then-not-is_within
returns-then-not-is_within c s = size_refused _ _ s (sym c.is_within.ensures ∙ c.if-not-is_within.true)

pub returns : goal.returns
returns c s = size_passed _ _ s (sym c.is_within.ensures ∙ c.if-not-is_within.false)
