-- `judging::LinesJudged::take_opening` meets its contract. Assumes nothing.
use Rattle.judging.proofs.Steps.{opening_taken, opening_running, opening_finished}
use Rattle.judging.proofs.LinesJudged.take_opening.Goals as goal

pub returns-in-Unbegun-clause-keeps_step : goal.returns-in-Unbegun-clause-keeps_step
returns-in-Unbegun-clause-keeps_step c = λ job st stands k. opening_taken job c.args.line st stands (rw c.in-Unbegun.is at k)

pub returns-in-Running-clause-keeps_step : goal.returns-in-Running-clause-keeps_step
returns-in-Running-clause-keeps_step c =
    λ job st stands k. rw c.closed.ensures (opening_running job c.args.line st c.in-Running.above stands (rw c.in-Running.is at k))

pub returns-in-Finished-clause-keeps_step : goal.returns-in-Finished-clause-keeps_step
returns-in-Finished-clause-keeps_step c = λ job st stands k. opening_finished job c.args.line st stands (rw c.in-Finished.is at k)
