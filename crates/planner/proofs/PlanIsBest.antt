-- The plan by value of an accepted job: no track is beaten, each wire is at its net's shortest length, and the sums balance. Assumes nothing.
use Prim.Native.Nat.{ℕ, suc, ◌-◌, ◌<◌}
use mathlib.Core.Path.{◌≡◌, refl, ap}
use mathlib.Core.List.{List, [], ◌∷◌, ◌++◌, map}
use native.Mathlib.Omega.{arith}
use lib.ListN.{length, get_or, replicate}
use Rattle.lists.specs.Lists.{Each}
use Rattle.lists.proofs.Cases.{by_test}
use Rattle.board.specs.declared.Net.{Net}
use Rattle.board.specs.Length.{shortest}
use Rattle.board.specs.Job.{Job}
use Rattle.board.specs.Unbeaten.{FilledTrack, empty_track, numbers_on}
use Rattle.board.specs.Accepted.{AcceptedJob}
use Rattle.board.specs.Tests.{is_on}
use Rattle.packing.specs.Walk.{wires_of}
use Rattle.packing.proofs.ByRow.{best_largest}
use Rattle.planning.specs.Plan.{filled_track, plan_of}
use Rattle.planning.specs.Loose.{without, loose_of}
use Rattle.planning.proofs.PlanUnbeaten.{all_allowed, plan_unbeaten}
use Rattle.planning.proofs.Balance.{sums_add_up}
use Rattle.std.specs.Prelude.{Option, None}
use Rattle.board.specs.declared.Wired.{Wired}
use Rattle.planner.specs.JobPlans.{net_plan_of, stored_plan, job_plan_of}
use Rattle.planner.specs.Progressed.{on_first}
use Rattle.planner.specs.Chosen.{loose_from, loose_nets, BestPlan}
use Rattle.planner.proofs.Stands.{on_stand}
use Rattle.planning.proofs.FirstTracks.{plan_at}
use Rattle.planner.proofs.TracksOfPlan.{tracks_of_plan}

-- the nets that stand on no track of a plan are its loose nets
loose_from_lem : (plan : List FilledTrack) (ns : List Net) (rest : List (Option Wired)) → loose_from ns (map (net_plan_of plan) ns ++ rest) ≡ without (numbers_on plan) ns
unfolding loose_from without
loose_from_lem plan [] rest = refl
loose_from_lem plan (n ∷ ns) rest =
    by_test (is_on (numbers_on plan) n)
    (λ e. rw (on_stand 1 n plan, e) (loose_from_lem plan ns rest))
    (λ e. rw (on_stand 1 n plan, e) (ap (λ l. n ∷ l) (loose_from_lem plan ns rest)))

module _ (job : Job) where
  pub loose_of_plan : loose_nets job (job_plan_of job) ≡ loose_of job (plan_of job)
  unfolding loose_nets loose_of job_plan_of stored_plan
  loose_of_plan = loose_from_lem (plan_of job) job.nets (replicate (512 - length job.nets) None)

  module _ (a : AcceptedJob job) where
    plan_shortest : (i : ℕ) → i < job.board.tracks → Each (λ p. p.shape ≡ shortest job.board p.net) (get_or (plan_of job) i empty_track).wires
    unfolding filled_track wires_of
    plan_shortest i h = rw (plan_at job i empty_track h) (best_largest job (on_first job i) (suc i) (all_allowed job a) 1 (omega arith)).at_shortest

    pub best_plan : BestPlan job (job_plan_of job)
    best_plan =
        let e = tracks_of_plan job a in
        record {
          unbeaten = rw e (plan_unbeaten job a);
          at_shortest = rw e plan_shortest;
          balance = rw (e, loose_of_plan) (sums_add_up job a);
        }
