-- The sums of a plan by value, added up: they are those of its tracks, and at most 524,288. Assumes nothing.
use Rattle.std.specs.Prelude.{sum, fold}
use Prim.Native.Nat.{ℕ, zero, suc, ◌+◌, ◌-◌, ◌≤◌}
use mathlib.Core.Path.{◌≡◌, refl, ap, ◌∙◌}
use mathlib.Core.List.{List, [], ◌∷◌, ◌++◌, map}
use native.Mathlib.Omega.{arith}
use lib.ListN.{length, replicate}
use Rattle.board.specs.Job.{Job}
use Rattle.board.specs.Accepted.{AcceptedJob}
use Rattle.board.specs.Unbeaten.{FilledTrack}
use Rattle.board.proofs.Weights.{job_weight}
use Rattle.planning.specs.Plan.{plan_of}
use Rattle.planning.specs.Loose.{sum_of_tracks}
use Rattle.planning.proofs.Balance.{sums_add_up}
use Rattle.planner.specs.JobPlans.{stored_plan, job_plan_of}

-- ---- the sum of a list, from its first number on
sum_from : (xs : List ℕ) (a : ℕ) → fold ◌+◌ a xs ≡ a + sum xs
sum_from [] a = omega arith
sum_from (x ∷ xs) a = omega (arith, sum_from xs (a + x), sum_from xs (0 + x))

sum_first : (x : ℕ) (xs : List ℕ) → sum (x ∷ xs) ≡ x + sum xs
sum_first x xs = omega (arith, sum_from xs (0 + x))

-- ---- the sums of tracks, with zeros behind them
added_zeros : (k : ℕ) → sum (replicate k 0) ≡ 0
added_zeros zero = refl
added_zeros (suc k) = sum_first 0 (replicate k 0) ∙ omega (arith, added_zeros k)

added_tracks : (trs : List FilledTrack) (k : ℕ) → sum (map (λ tr. tr.sum) trs ++ replicate k 0) ≡ sum_of_tracks trs
unfolding sum_of_tracks
added_tracks [] k = added_zeros k
added_tracks (tr ∷ trs) k = sum_first tr.sum (map (λ x. x.sum) trs ++ replicate k 0) ∙ ap (λ s. tr.sum + s) (added_tracks trs k)

pub added_plan : (job : Job) → sum (job_plan_of job).sums ≡ sum_of_tracks (plan_of job)
unfolding job_plan_of stored_plan
added_plan job = added_tracks (plan_of job) (128 - length (plan_of job))

-- ---- the sums are within the weights of the nets of the job
pub added_most : (job : Job) → AcceptedJob job → sum (job_plan_of job).sums ≤ 524288
added_most job a = omega (arith, added_plan job, sums_add_up job a, job_weight job a)
