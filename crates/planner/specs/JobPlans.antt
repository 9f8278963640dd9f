-- The plan of a job by value: where the wire of each net stands, and each track's sum.
use Rattle.std.specs.Prelude.{ℕ, suc, ◌-◌, List, [], ◌∷◌, ◌++◌, map, eqb, length, replicate, Option, None, Some}
use Rattle.lists.specs.Lists.{first_of}
use Rattle.board.specs.declared.Net.{Net}
use Rattle.board.specs.Job.{Job}
use Rattle.board.specs.Placement.{Placement}
use Rattle.board.specs.Unbeaten.{FilledTrack}
use Rattle.planning.specs.Plan.{plan_of}
use Rattle.board.specs.declared.Wired.{Wired}
use Rattle.planner.specs.declared.JobPlan.{JobPlan}

-- the wire of the net with number k, if it has one
unfoldable pub wire_with : ℕ → List Placement → Option Placement
wire_with k ps = first_of (λ p. eqb p.net.number k) ps

-- where a wire on track t stands
abbrev pub wired : ℕ → Placement → Wired
wired t p = record { track = record { 0 = t }; top = record { 0 = p.top }; shape = p.shape }

-- where the net with number k stands, on tracks that begin with track t; None where it has no wire
unfoldable pub stand_from : ℕ → List FilledTrack → ℕ → Option Wired
stand_from t [] k = None
stand_from t (tr ∷ trs) k =
    elim (wire_with k tr.wires) [
      | None ↦ stand_from (suc t) trs k
      | Some p ↦ Some (wired t p)
    ]

-- the plan of one net
abbrev pub net_plan_of : List FilledTrack → Net → Option Wired
net_plan_of plan n = stand_from 1 plan n.number

-- the plan by value of a job whose tracks are filled so
unfoldable pub stored_plan : Job → List FilledTrack → JobPlan
stored_plan job plan =
    record {
      nets = map (net_plan_of plan) job.nets ++ replicate (512 - length job.nets) None;
      sums = map (λ tr. tr.sum) plan ++ replicate (128 - length plan) 0;
    }

-- the plan of the job by value
unfoldable pub job_plan_of : Job → JobPlan
job_plan_of job = stored_plan job (plan_of job)
