-- `exports::hankuribo_read` meets its contract. Assumes nothing.
use mathlib.Core.Path.{◌∙◌}
use Rattle.exports.proofs.Answered.{number_given, accepted_given}
use Rattle.jobfile.proofs.Returned.{given_read}
use Rattle.exports.proofs.hankuribo_read.Goals as goal

pub returns-in-Ok : goal.returns-in-Ok
returns-in-Ok c = record { answer = accepted_given _ _ (given_read _ _ c.in-Ok.ensures.answer) }

pub returns-in-Err : goal.returns-in-Err
returns-in-Err c = record { answer = c.number.ensures ∙ number_given _ _ c.in-Err.ensures.answer }
