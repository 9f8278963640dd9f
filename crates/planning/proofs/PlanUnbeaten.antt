-- The plan of an accepted job is unbeaten: on every track no rival sequence has a larger sum, with the earlier tracks held. Assumes nothing.
use Prim.Native.Nat.{ℕ, suc, ◌+◌, ◌≤◌}
use mathlib.Core.List.{List, Memᴰ}
use native.Mathlib.Omega.{arith}
use lib.ListN.{take}
use Rattle.board.specs.declared.Net.{Net}
use Rattle.board.specs.Length.{Allowed, shortest}
use Rattle.board.specs.Job.{Job}
use Rattle.board.specs.Unbeaten.{empty_track, numbers_on, Optimal, Unbeaten}
use Rattle.board.specs.Accepted.{AcceptedJob}
use Rattle.board.proofs.Tops.{accepted_shortest}
use Rattle.packing.specs.Best.{best}
use Rattle.packing.specs.Walk.{walk_from, wires_of}
use Rattle.packing.specs.Step.{LargestSum, WalkStep}
use Rattle.packing.proofs.UpperBound.{rival_le_best}
use Rattle.packing.proofs.ByRow.{best_largest, walk_step}
use Rattle.planning.specs.Plan.{filled_track, plan_of}
use Rattle.planning.proofs.FirstTracks.{plan_length, plan_at}

-- every net of an accepted job is allowed in its shortest shape
pub all_allowed : (job : Job) → AcceptedJob job → (n : Net) → Memᴰ n job.nets → Allowed job.board n (shortest job.board n)
all_allowed job a n i = accepted_shortest job.board n (a.nets_each n i)

module _ (job : Job) (allowed : (n : Net) → Memᴰ n job.nets → Allowed job.board n (shortest job.board n)) where
  pub track_optimal : (earlier : List ℕ) (t : ℕ) → Optimal job earlier t (filled_track job earlier t)
  unfolding filled_track wires_of best
  track_optimal earlier t =
      record {
        most = λ ps r. omega (arith, rival_le_best job earlier t ps r);
        rival = (best_largest job earlier t allowed 1 (omega arith)).rival;
        sum_is = (best_largest job earlier t allowed 1 (omega arith)).sum_is;
      }

pub plan_unbeaten : (job : Job) → AcceptedJob job → Unbeaten job (plan_of job)
plan_unbeaten job a =
    record {
      count = plan_length job;
      each = λ i h. rw (plan_at job i empty_track h) (track_optimal job (all_allowed job a) (numbers_on (take i (plan_of job))) (suc i));
    }

-- ---- of an accepted job: best(j) for every row, and the walk's step at every row

pub accepted_best : (job : Job) → AcceptedJob job → (earlier : List ℕ) (t j : ℕ) → j ≤ job.board.rows + 1 →
    LargestSum job earlier t j (walk_from job earlier t j) (best job earlier t j)
accepted_best job a earlier t j h = best_largest job earlier t (all_allowed job a) j h

pub accepted_step : (job : Job) → AcceptedJob job → (earlier : List ℕ) (t j : ℕ) → 1 ≤ j → j ≤ job.board.rows →
    WalkStep job earlier t (best job earlier t) (walk_from job earlier t) j
accepted_step job a earlier t j l h = walk_step job earlier t (all_allowed job a) a.numbers_rise j l h
