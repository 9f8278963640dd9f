-- `RightAnswer` leaves one answer: its job or its refusal is the one that read returns. So, but for `job_accepted`, no clause of it, of
-- `FirstFault` or of `Fault` can be left out or weakened: another answer would be right too. `job_accepted` follows from the clauses above it,
-- and is said for those who use the job. Assumes nothing.
use Rattle.std.specs.Prelude.{Result, Ok, Err}
use Prim.Native.Nat.{ℕ}
use mathlib.Core.Path.{◌≡◌, refl, sym, ◌∙◌}
use mathlib.Core.List.{List}
use Rattle.board.specs.Accepted.{AcceptedJob}
use Rattle.board.specs.declared.StoredJob.{StoredJob}
use Rattle.board.specs.Stored.{job_of}
use Rattle.board.proofs.StoredJobs.{job_back}
use Rattle.jobfile.specs.declared.Refusal.{Refusal}
use Rattle.jobfile.specs.Answers.{answer_of, answer}
use Rattle.jobfile.specs.Faults.{forms_of, job_in}
use Rattle.jobfile.specs.RightAnswer.{RightAnswer}
use Rattle.jobfile.proofs.Refusals.{first_refused, faultless_accepted}

-- both answers are jobs, and stand for the same one; or both are the same refusal
abbrev pub SameAnswer : Result StoredJob Refusal → Result StoredJob Refusal → Type 0
SameAnswer (Ok a) (Ok b) = job_of a ≡ job_of b
SameAnswer (Ok a) (Err p) = ⊥
SameAnswer (Err o) (Ok b) = ⊥
SameAnswer (Err o) (Err p) = o ≡ p

module _ (text : List ℕ) where
  right_accepted : (s : StoredJob) → RightAnswer text (Ok s) → SameAnswer (Ok s) (answer text)
  unfolding answer_of
  right_accepted s r = rw (faultless_accepted text r.faultless) (r.job_held ∙ sym (job_back (job_in (forms_of text))))

  right_refused : (o : Refusal) → RightAnswer text (Err o) → SameAnswer (Err o) (answer text)
  unfolding answer_of
  right_refused o r = rw (first_refused text o r) refl

  -- a right answer has the job or the refusal that read returns
  pub right_only : (a : Result StoredJob Refusal) → RightAnswer text a → SameAnswer a (answer text)
  right_only (Ok s) r = right_accepted s r
  right_only (Err o) r = right_refused o r

  -- the job of an accepted text keeps every bound
  pub right_bounds : (s : StoredJob) → RightAnswer text (Ok s) → AcceptedJob (job_of s)
  right_bounds s r = r.job_accepted
