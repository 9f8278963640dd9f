-- Document 01, "Operations", check: what an answer of check is to be, said of the faults of the job file, of sound layouts and of broken
-- lines, and not of how the two texts are gone through.
use Rattle.std.specs.Prelude.{ℕ, ◌≤◌, ◌<◌, ◌≡◌, ◌↔◌, List, length, Result, Ok, Err}
use Rattle.board.specs.Job.{Job}
use Rattle.jobfile.specs.declared.Refusal.{Refusal}
use Rattle.jobfile.specs.Faults.{forms_of, job_in, Fault, FirstFault}
use Rattle.sound.specs.Sound.{Sound}
use Rattle.drc.specs.Breach.{Breach}
use Rattle.checker.specs.declared.CheckError.{CheckError}
use Rattle.checker.specs.declared.CheckError.TheVariants.{Refused, LayoutTooLong, Broken}

-- the job file has no fault, so that read accepts it
abbrev pub Faultless : List ℕ → Type 0
Faultless job = (o : Refusal) → Fault job o → ⊥

-- the job that the lines of a job file hold
abbrev pub job_held : List ℕ → Job
job_held job = job_in (forms_of job)

-- line l of the layout text is broken, and no line above it is
pub record FirstBreach (job : Job) (layout : List ℕ) (l : ℕ) : Type 0 where
  pub breach : Breach job layout l
  pub first : (m : ℕ) → Breach job layout m → l ≤ m

-- the answer for a job file and a layout text
pub record RightVerdict (job layout : List ℕ) (answer : Result (Unit {0}) CheckError) : Type 0 where
  -- refused as read does: for the first fault of the job file, and a job file with a fault gets no other answer
  pub refused_for : (o : Refusal) → (answer ≡ Err (Refused o)) ↔ FirstFault job o
  pub fault_refused : (o : Refusal) → Fault job o → (p : Refusal) × (answer ≡ Err (Refused p))
  -- refusal 11: exactly where the job file has no fault and the layout text is above 64,000 bytes
  pub too_long_for : (answer ≡ Err LayoutTooLong) ↔ (Faultless job × (64000 < length layout))
  -- sound: exactly where the job file has no fault and the layout keeps every rule. No such layout is above 64,000 bytes
  pub passes_for : (answer ≡ Ok tt) ↔ (Faultless job × Sound (job_held job) layout)
  -- broken with a line: exactly where the job file has no fault, the layout text is at most 64,000 bytes, and that line is its first
  -- broken one; and a layout text that does not keep every rule gets such an answer
  pub broken_for : (l : ℕ) → (answer ≡ Err (Broken l)) ↔ (Faultless job × (length layout ≤ 64000) × FirstBreach (job_held job) layout l)
  pub unsound_broken : Faultless job → length layout ≤ 64000 → (Sound (job_held job) layout → ⊥) → (l : ℕ) × (answer ≡ Err (Broken l))
