-- What read returns: a job by value stands for the job read, which is accepted; a refusal names the first fault of the text.
-- Assumes nothing.
use Rattle.std.specs.Prelude.{Result, Ok, Err}
use Prim.Native.Nat.{ℕ}
use mathlib.Core.Path.{◌≡◌, refl, sym, ap}
use mathlib.Core.List.{List}
use Rattle.board.specs.declared.StoredJob.{StoredJob}
use Rattle.board.specs.Stored.{job_of, stored_of, AcceptedStored}
use Rattle.jobfile.specs.declared.Refusal.{Refusal}
use Rattle.jobfile.specs.Read.{Read, accepted, refused, read_job}
use Rattle.jobfile.specs.Answers.{answer_of, answer}
use Rattle.jobfile.specs.RightAnswer.{RightAnswer}
use Rattle.jobfile.proofs.Accepts.{read_accepted}
use Rattle.board.proofs.StoredJobs.{job_back, stored_accepted}
use Rattle.jobfile.proofs.Refusals.{read_refused, read_faultless, read_held}

-- what a caller of read holds of a text: that the answer is the one for what the text is read as
module _ (text : List ℕ) where
  -- a job by value is the stored one, and the text is read as it
  pub given_job : (s : StoredJob) → Ok s ≡ answer_of (read_job text) → AcceptedStored s × (read_job text ≡ accepted (job_of s))
  unfolding answer_of
  given_job s = by (read_job text) refl
    where
      by : (y : Read) → read_job text ≡ y → Ok s ≡ answer_of y → AcceptedStored s × (y ≡ accepted (job_of s))
      by (accepted job) r e =
          let same : s ≡ stored_of job = cc in
          rw same (stored_accepted job (read_accepted text job r), ap accepted (sym (job_back job)))
      by (refused o) r e = cc

  pub given_stored : (s : StoredJob) → Ok s ≡ answer_of (read_job text) → AcceptedStored s
  given_stored s e = (given_job s e).0

  pub given_read : (s : StoredJob) → Ok s ≡ answer_of (read_job text) → read_job text ≡ accepted (job_of s)
  given_read s e = (given_job s e).1

  -- a refusal is the one that the text is refused with
  pub given_refused : (o : Refusal) → Err o ≡ answer_of (read_job text) → read_job text ≡ refused o
  unfolding answer_of
  given_refused o = by (read_job text)
    where
      by : (y : Read) → Err o ≡ answer_of y → y ≡ refused o
      by (accepted job) e = cc
      by (refused p) e = cc

-- the same of what read returns
module _ (text : List ℕ) where
  pub returned_job : (s : StoredJob) → answer text ≡ Ok s → read_job text ≡ accepted (job_of s)
  returned_job s e = given_read text s (sym e)

  pub returned_refused : (o : Refusal) → answer text ≡ Err o → read_job text ≡ refused o
  returned_refused o e = given_refused text o (sym e)

  -- a refusal hands out no job
  pub returned_empty : (o : Refusal) → answer text ≡ Err o → (s : StoredJob) → answer text ≡ Ok s → ⊥
  returned_empty o e s f = cc

-- beside a refusal there is no job
pub refused_job : (o : Refusal) (s : StoredJob) → answer_of (refused o) ≡ Ok s → ⊥
unfolding answer_of
refused_job o s e = cc

-- the answer of read is right
pub right_answer : (text : List ℕ) (a : Result StoredJob Refusal) → a ≡ answer_of (read_job text) → (a ≡ answer_of (read_job text)) × RightAnswer text a
right_answer text (Ok s) e = (
  e,
  let r = given_read text s e in record {
    faultless = read_faultless text (job_of s) r;
    job_held = read_held text (job_of s) r;
    job_accepted = read_accepted text (job_of s) r;
  },
)
right_answer text (Err o) e = (e, read_refused text o (given_refused text o e))
