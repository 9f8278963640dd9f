-- What holds of the answer that is given by equation: it has the document's values, it is right for the faults of the job file and the
-- room, and what holds of the text of every accepted job holds of the bytes written. Assumes nothing.
use Rattle.std.specs.Prelude.{Result, Ok, Err}
use Prim.Native.Nat.{ℕ, ◌≤◌}
use mathlib.Core.Path.{◌≡◌, refl}
use mathlib.Core.List.{List}
use lib.ListN.{length}
use Rattle.board.specs.Job.{Job}
use Rattle.board.specs.Accepted.{AcceptedJob}
use Rattle.jobfile.specs.declared.Refusal.{Refusal}
use Rattle.jobfile.specs.Read.{accepted, refused, read_job}
use Rattle.answers.specs.declared.TextRefusal.{TextRefusal}
use Rattle.answers.specs.declared.TextRefusal.TheVariants as Is
use Rattle.answers.proofs.ByRoom.{values_by, right_by, held_by}
use Rattle.answers.specs.Answers.{answer_values, document_values, answer_for, buffer_for, text_answer, buffer_after, RightFor, OfWritten}

-- ---- the whole operation

module _ (text : Job → List ℕ) (file before : List ℕ) where
  -- the answer and the buffer, by equation
  abbrev pub Given : Result ℕ TextRefusal → List ℕ → Type 0
  Given a after = (a ≡ text_answer text (read_job file) (length before)) × (after ≡ buffer_after text (read_job file) before)

  -- a file that read refuses
  pub refused_given : (o : Refusal) → read_job file ≡ refused o → Given (Err (Is.Refused o)) before
  unfolding text_answer buffer_after
  refused_given o e = rw e (refl, refl)

  -- an accepted one whose text was copied
  pub accepted_given : (job : Job) → read_job file ≡ accepted job → {t : List ℕ} → t ≡ text job → {a : Result ℕ TextRefusal} {after : List ℕ} →
      (a ≡ answer_for t (length before)) × (after ≡ buffer_for t before) → Given a after
  unfolding text_answer buffer_after
  accepted_given job e q h = rw e (rw q at h)

  module _ {a : Result ℕ TextRefusal} {after : List ℕ} (g : Given a after) where
    pub values_given : answer_values a ≡ document_values text (read_job file) (length before)
    values_given = rw g.0 (values_by text file before (read_job file))

    pub right_given : (Length : Job → ℕ → Type 0) → ((job : Job) → AcceptedJob job → length (text job) ≤ 64000) →
        ((job : Job) → AcceptedJob job → Length job (length (text job))) → RightFor Length file (length before) a
    right_given Length short measured = rw g.0 (right_by text file before Length short measured (read_job file) refl)

    -- what holds of the text of every accepted job holds of the bytes written
    pub held_given : (P : Job → List ℕ → Type 0) → ((job : Job) → AcceptedJob job → P job (text job)) → OfWritten P (read_job file) a after
    held_given P p = rw (g.0, g.1) (held_by text file before P p (read_job file) refl)
