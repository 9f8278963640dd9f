-- Document 01, "Operations", read: what an answer of read is to be, said of the faults of the text and not of how it is read.
-- proofs/RightOnly.antt shows that one answer is right.
use Rattle.std.specs.Prelude.{ℕ, ◌≡◌, List, Result, Ok, Err}
use Rattle.board.specs.Accepted.{AcceptedJob}
use Rattle.board.specs.Stored.{job_of}
use Rattle.board.specs.declared.StoredJob.{StoredJob}
use Rattle.jobfile.specs.declared.Refusal.{Refusal}
use Rattle.jobfile.specs.Faults.{forms_of, job_in, Fault, FirstFault}

-- the job of a text without a fault: it is the one that the lines hold, and keeps every bound
pub record RightJob (text : List ℕ) (job : StoredJob) : Type 0 where
  pub faultless : (o : Refusal) → Fault text o → ⊥
  pub job_held : job_of job ≡ job_in (forms_of text)
  pub job_accepted : AcceptedJob (job_of job)

-- a job is the answer for a text without a fault, and is the job of that text; a refusal is the answer for a text that has the fault that it
-- names, where no fault is on a line before it, and none on its line has a smaller number. Beside a refusal there is no job
abbrev pub RightAnswer : List ℕ → Result StoredJob Refusal → Type 0
RightAnswer text (Ok job) = RightJob text job
RightAnswer text (Err o) = FirstFault text o
