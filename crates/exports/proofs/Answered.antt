-- What the answer of read stands for: the number of a refusal, or an accepted job, whose plan is the text's. Assumes nothing.
use Rattle.std.specs.Prelude.{Ok, Err, MatchResult, sum}
use Prim.Native.Nat.{ℕ, ◌≤◌}
use mathlib.Core.Path.{◌≡◌, refl, sym}
use mathlib.Core.List.{List}
use Rattle.board.specs.Job.{Job}
use Rattle.jobfile.specs.declared.Refusal.{Refusal}
use Rattle.jobfile.specs.Read.{Read, accepted, refused, read_job}
use Rattle.jobfile.specs.Answers.{number_of, answer_of}
use Rattle.jobfile.proofs.Accepts.{read_accepted}
use Rattle.planner.specs.JobPlans.{job_plan_of}
use Rattle.planner.specs.declared.JobPlan.{JobPlan}
use Rattle.exports.specs.Exported.{refusal_of, plan_sum}
use Rattle.exports.proofs.Sums.{added_plan, added_most}

-- a job has number 0, a refusal its own
pub answer_number : (r : Read) → MatchResult (answer_of r) (λ job. 0 ≡ refusal_of r) (λ o. number_of o ≡ refusal_of r)
unfolding answer_of refusal_of
answer_number (accepted job) = refl
answer_number (refused o) = refl

-- a refusal has no plan
pub refused_sum : (r : Read) (o : Refusal) → r ≡ refused o → 0 ≡ plan_sum r
unfolding plan_sum
refused_sum r o e = rw e

pub number_given : (text : List ℕ) (o : Refusal) → Err o ≡ answer_of (read_job text) → number_of o ≡ refusal_of (read_job text)
number_given text o e = rw (sym e) at (answer_number (read_job text))

-- an accepted text has number 0, and the sum of its plan
module _ (text : List ℕ) (job : Job) (e : read_job text ≡ accepted job) where
  pub accepted_given : 0 ≡ refusal_of (read_job text)
  unfolding refusal_of
  accepted_given = rw e

  module _ (plan : JobPlan) (p : plan ≡ job_plan_of job) where
    pub sums_given : sum plan.sums ≤ 524288
    sums_given = rw p (added_most job (read_accepted text job e))

    pub plan_given : sum plan.sums ≡ plan_sum (read_job text)
    unfolding plan_sum
    plan_given = rw (p, e) (added_plan job)
