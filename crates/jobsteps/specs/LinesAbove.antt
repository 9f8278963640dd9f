-- What the code of read holds of the lines above: a stage and the job so far stand for a state, and a line leads to the next one.
use Rattle.std.specs.Prelude.{◌≡◌, List, ◌≤◌, Result, Ok, Err}
use Rattle.board.specs.declared.Net.{Net}
use Rattle.board.specs.declared.StoredJob.{StoredJob}
use Rattle.board.specs.Accepted.{BoardInRange}
use Rattle.board.specs.Stored.{job_of, stored_of}
use Rattle.jobfile.specs.declared.Refusal.{Refusal}
use Rattle.jobfile.specs.Read.{State, start, opened, sized, filled, closed, last_number, Next, go, stop}
use Rattle.jobfile.specs.Answers.{no_job}
use Rattle.jobrules.specs.Rules.{PinsOf}
use Rattle.jobsteps.specs.declared.NetsRead.{NetsRead}
use Rattle.jobsteps.specs.declared.Stage.{Stage}
use Rattle.jobsteps.specs.declared.Stage.TheVariants as At

-- the state that a stage and the job so far stand for
unfoldable pub state_of : Stage → StoredJob → State
state_of At.Start job = start
state_of At.Opened job = opened
state_of (At.Sized h) job = sized h
state_of At.Filled job = filled (job_of job)
state_of At.Closed job = closed (job_of job)

-- behind `(tracks K)`: the size is in range, there are no more nets and blocks than slots, and every unused slot is empty
pub record Filled (job : StoredJob) : Type 0 where
  pub stored : stored_of (job_of job) ≡ job
  pub board_range : BoardInRange job.board
  pub nets_count : job.nnets ≤ 512
  pub blocks_count : job.nblocks ≤ 256

-- what is known at a stage: the job is empty before `(tracks K)`, and H is in range; behind it all that `Filled` says
abbrev pub JobAt : Stage → StoredJob → Type 0
JobAt At.Start job = job ≡ stored_of no_job
JobAt At.Opened job = job ≡ stored_of no_job
JobAt (At.Sized h) job = (job ≡ stored_of no_job) × (1 ≤ h) × (h ≤ 1024)
JobAt At.Filled job = Filled job
JobAt At.Closed job = Filled job

-- the last number and the pins are those of these nets
pub record NetsAre (nets : List Net) (a : NetsRead) : Type 0 where
  pub last_is : last_number 0 nets ≡ a.last
  pub pins : PinsOf nets a.used

-- what is held of the lines above
pub record Held (stage : Stage) (a : NetsRead) (job : StoredJob) : Type 0 where
  pub job_is : JobAt stage job
  pub nets_are : NetsAre (job_of job).nets a

-- a line goes on to the state of what is held behind it, or is refused
abbrev pub Taken : Next → Result Stage Refusal → NetsRead → StoredJob → Type 0
Taken x (Ok stage) a job = (x ≡ go (state_of stage job)) × Held stage a job
Taken x (Err o) a job = x ≡ stop o
