-- What is planned after the first tracks of a job, by value.
use Rattle.std.specs.Prelude.{ℕ, ◌-◌, ◌≤◌, ◌≡◌, List, take}
use Rattle.board.specs.Job.{Job}
use Rattle.board.specs.Unbeaten.{FilledTrack, numbers_on}
use Rattle.planning.specs.Plan.{plan_of}
use Rattle.choice.specs.declared.TrackPlan.{TrackPlan}
use Rattle.choice.specs.TrackPlans.{track_plan_of}
use Rattle.planner.specs.declared.JobPlan.{JobPlan}
use Rattle.planner.specs.JobPlans.{stored_plan}

-- tracks 1 to t of the job's plan
abbrev pub first_tracks : Job → ℕ → List FilledTrack
first_tracks job t = take t (plan_of job)

-- the numbers of the nets on tracks 1 to t
abbrev pub on_first : Job → ℕ → List ℕ
on_first job t = numbers_on (first_tracks job t)

-- what is planned after tracks 1 to t
abbrev pub progress_to : Job → ℕ → JobPlan
progress_to job t = stored_plan job (first_tracks job t)

-- track t comes next: p is what is planned after the tracks before it
pub record OnTurn (job : Job) (t : ℕ) (p : JobPlan) : Type 0 where
  pub track_range : (1 ≤ t) × (t ≤ job.board.tracks)
  pub so_far : p ≡ progress_to job (t - 1)

-- the plan of track t by value, where the nets of the tracks before it are held
abbrev pub track_plan : Job → ℕ → TrackPlan
track_plan job t = track_plan_of job (on_first job (t - 1)) t
