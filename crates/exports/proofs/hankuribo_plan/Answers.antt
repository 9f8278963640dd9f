-- `exports::hankuribo_plan` meets its contract. Assumes nothing.
use mathlib.Core.Path.{◌∙◌}
use Rattle.exports.proofs.Answered.{refused_sum, sums_given, plan_given}
use Rattle.exports.proofs.hankuribo_plan.Goals as goal

pub add_up-requires : goal.add_up-requires
add_up-requires c = sums_given _ _ c.in-Ok.ensures _ c.plan_job-plan.ensures.answer

pub returns-in-Ok : goal.returns-in-Ok
returns-in-Ok c = record { answer = c.add_up.ensures ∙ plan_given _ _ c.in-Ok.ensures _ c.plan_job-plan.ensures.answer }

pub returns-in-Err : goal.returns-in-Err
returns-in-Err c = record { answer = refused_sum _ _ c.in-Err.ensures }
