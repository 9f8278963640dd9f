-- What the test of the room decides: the answer and the buffer where a text has more bytes than the buffer, and where it is copied; the
-- document's values of both, that both are right, and what holds of the bytes written. Assumes nothing.
use Rattle.std.specs.Prelude.{Ok, Err}
use Prim.Native.Nat.{ℕ, ◌≤◌, ◌<◌}
use mathlib.Core.Path.{◌≡◌, refl}
use mathlib.Core.List.{List}
use native.Mathlib.Omega.{arith}
use lib.Dec.{leb}
use lib.ListN.{length, drop}
use lib.Seq.{take-append_seam}
use borrow.Author.Tests.{leb-true, leb-false, le-leb, lt-leb}
use Rattle.lists.proofs.Cases.{by_test}
use Rattle.board.specs.Job.{Job}
use Rattle.board.specs.Accepted.{AcceptedJob}
use Rattle.text.specs.Written.{Written}
use Rattle.jobfile.specs.Read.{Read, accepted, refused, read_job}
use Rattle.jobfile.proofs.Accepts.{read_accepted}
use Rattle.jobfile.proofs.Refusals.{read_refused, read_faultless}
use Rattle.answers.specs.declared.TextRefusal.TheVariants as Is
use Rattle.answers.specs.Answers.{answer_values, document_values, answer_for, buffer_for, text_answer, buffer_after, RightFor, OfWritten}

-- ---- the copy into the buffer

pub small_for : (t before : List ℕ) {n : ℕ} → n ≡ length t → length before < n → (Err (Is.TooSmall n) ≡ answer_for t (length before)) × (before ≡ buffer_for t before)
unfolding answer_for buffer_for
small_for t before e l = rw (e, lt-leb (length t) (length before) (omega (arith, l, e))) (refl, refl)

pub written_for : (t before : List ℕ) {after : List ℕ} {n : ℕ} → Written t before after n → length t ≤ length before →
    (Ok n ≡ answer_for t (length before)) × (after ≡ buffer_for t before)
unfolding answer_for buffer_for
written_for t before w l = rw (w.used, w.bytes, le-leb (length t) (length before) l) (refl, refl)

-- ---- by what the job file is read as

module _ (text : Job → List ℕ) (file before : List ℕ) where
  -- the document's values
  pub values_by : (y : Read) → answer_values (text_answer text y (length before)) ≡ document_values text y (length before)
  unfolding text_answer document_values answer_for
  values_by (refused o) = refl
  values_by (accepted job) = by_test (leb (length (text job)) (length before)) (λ e. rw e refl) (λ e. rw e refl)

  module _ (Length : Job → ℕ → Type 0) (short : (job : Job) → AcceptedJob job → length (text job) ≤ 64000)
      (measured : (job : Job) → AcceptedJob job → Length job (length (text job))) where
    pub right_by : (y : Read) → read_job file ≡ y → RightFor Length file (length before) (text_answer text y (length before))
    unfolding text_answer answer_for
    right_by (refused o) e = read_refused file o e
    right_by (accepted job) e =
        let a = read_accepted file job e in
        by_test (leb (length (text job)) (length before))
        (λ q. rw q (read_faultless file job e, leb-true (length (text job)) (length before) q, short job a))
        (λ q. rw q (read_faultless file job e, omega (arith, leb-false (length (text job)) (length before) q), short job a, rw e (measured job a)))

  pub held_by : (P : Job → List ℕ → Type 0) → ((job : Job) → AcceptedJob job → P job (text job)) →
      (y : Read) → read_job file ≡ y → OfWritten P y (text_answer text y (length before)) (buffer_after text y before)
  unfolding text_answer buffer_after answer_for buffer_for
  held_by P p (refused o) e = tt
  held_by P p (accepted job) e =
      by_test (leb (length (text job)) (length before))
      (λ q. rw (q, take-append_seam (text job) (drop (length (text job)) before)) (p job (read_accepted file job e)))
      (λ q. rw q tt)
