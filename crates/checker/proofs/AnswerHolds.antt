-- What holds of each answer of check, that it holds of the answer by definition for an accepted job, and the document's number, word and line.
-- Assumes nothing.
use Rattle.std.specs.Prelude.{Result, Ok, Err}
use Prim.Native.Nat.{ℕ, ◌≤◌, ◌<◌}
use mathlib.Core.Path.{◌≡◌, refl}
use mathlib.Core.List.{List}
use lib.Dec.{leb}
use lib.ListN.{length}
use borrow.Author.Tests.{leb-true, leb-false}
use Rattle.lists.proofs.Cases.{by_test}
use Rattle.board.specs.Accepted.{AcceptedJob}
use Rattle.jobfile.specs.Read.{Read, accepted, refused}
use Rattle.jobfile.specs.Faults.{FirstFault}
use Rattle.jobfile.proofs.Accepts.{read_accepted}
use Rattle.jobfile.proofs.Refusals.{faultless_accepted}
use Rattle.sound.specs.Sound.{Sound}
use Rattle.drc.specs.Judge.{Verdict, sound_text, broken_at, judge}
use Rattle.drc.proofs.FirstBroken.{judge_breach, judge_first}
use Rattle.drc.proofs.JudgeSound.{judge_sound}
use Rattle.checker.specs.declared.CheckError.{CheckError}
use Rattle.checker.specs.declared.CheckError.TheVariants.{Refused, LayoutTooLong, Broken}
use Rattle.checker.specs.Answers.{check_values, verdict_values, document_verdict, verdict_answer, check_answer}
use Rattle.checker.specs.RightVerdict.{Faultless, job_held, FirstBreach}

module _ (job layout : List ℕ) where
  -- what holds where the answer is given
  abbrev pub Holds : Result (Unit {0}) CheckError → Type 0
  Holds (Err (Refused o)) = FirstFault job o
  Holds (Err LayoutTooLong) = Faultless job × (64000 < length layout)
  Holds (Ok u) = Faultless job × Sound (job_held job) layout
  Holds (Err (Broken l)) = Faultless job × (length layout ≤ 64000) × FirstBreach (job_held job) layout l

  pub held_accepted : Faultless job → AcceptedJob (job_held job)
  held_accepted f = read_accepted job (job_held job) (faultless_accepted job f)

  -- ---- the answer of the definitions holds

  broken_holds : Faultless job → length layout ≤ 64000 → (l : ℕ) → judge (job_held job) layout ≡ broken_at l → Holds (Err (Broken l))
  broken_holds f n l e = (
    f,
    n,
    record { breach = judge_breach (job_held job) (held_accepted f) layout l e; first = λ m b. judge_first (job_held job) (held_accepted f) layout l m e b },
  )

  verdict_holds : Faultless job → length layout ≤ 64000 → (v : Verdict) → judge (job_held job) layout ≡ v → Holds (verdict_answer v)
  unfolding verdict_answer
  verdict_holds f n sound_text e = (f, judge_sound (job_held job) (held_accepted f) layout e)
  verdict_holds f n (broken_at l) e = broken_holds f n l e

  pub accepted_holds : Faultless job → Holds (check_answer (accepted (job_held job)) layout)
  unfolding check_answer
  accepted_holds f =
      by_test (leb (length layout) 64000)
      (λ t. rw t (verdict_holds f (leb-true (length layout) 64000 t) (judge (job_held job) layout) refl))
      (λ t. rw t (f, leb-false (length layout) 64000 t))

  -- the answer has the document's number, word and line
  values_of : (v : Verdict) → check_values (verdict_answer v) ≡ verdict_values v
  unfolding verdict_answer verdict_values
  values_of sound_text = refl
  values_of (broken_at l) = refl

  pub values_as : (y : Read) → check_values (check_answer y layout) ≡ document_verdict y layout
  unfolding check_answer document_verdict
  values_as (refused o) = refl
  values_as (accepted j) = by_test (leb (length layout) 64000) (λ t. rw t (values_of (judge j layout))) (λ t. rw t refl)
