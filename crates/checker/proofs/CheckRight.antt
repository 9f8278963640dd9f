-- The answer of check is right: a job file is refused for its first fault; of one without a fault a layout text is refused by its length,
-- passes exactly if it is sound, and is broken at its first broken line. Assumes nothing.
use Rattle.std.specs.Prelude.{Result, Ok, Err}
use Prim.Native.Nat.{ℕ, ◌≤◌}
use mathlib.Core.Path.{◌≡◌, refl, sym, ap, subst, ◌∙◌}
use mathlib.Core.List.{List}
use native.Mathlib.Omega.{arith}
use lib.ListN.{length}
use Rattle.board.specs.Job.{Job}
use Rattle.jobfile.specs.declared.Refusal.{Refusal}
use Rattle.jobfile.specs.Read.{Read, accepted, refused, read_job}
use Rattle.jobfile.specs.Faults.{Fault, FirstFault}
use Rattle.jobfile.proofs.Refusals.{read_refused, read_faultless, read_held, first_refused}
use Rattle.sound.specs.Sound.{Sound}
use Rattle.sound.proofs.Bounds.{sound_length}
use Rattle.drc.proofs.JudgeSound.{sound_unbroken}
use Rattle.checker.proofs.AnswerHolds.{Holds, held_accepted, accepted_holds, values_as}
use Rattle.checker.specs.declared.CheckError.{CheckError}
use Rattle.checker.specs.declared.CheckError.TheVariants.{Refused, LayoutTooLong, Broken}
use Rattle.checker.specs.Answers.{check_values, document_verdict, check_answer}
use Rattle.checker.specs.RightVerdict.{Faultless, job_held, FirstBreach, RightVerdict}

module _ (job layout : List ℕ) where
  -- ---- at most one answer holds

  one_fault : (o p : Refusal) → FirstFault job o → FirstFault job p → o ≡ p
  one_fault o p f g = let e : refused o ≡ refused p = sym (first_refused job o f) ∙ first_refused job p g in cc

  one_breach : (l m : ℕ) → FirstBreach (job_held job) layout l → FirstBreach (job_held job) layout m → l ≡ m
  one_breach l m b c = omega (arith, b.first m c.breach, c.first l b.breach)

  sound_short : Faultless job → Sound (job_held job) layout → length layout ≤ 64000
  sound_short f s = sound_length (job_held job) (held_accepted job layout f) layout s

  unbroken : (l : ℕ) → Faultless job → Sound (job_held job) layout → FirstBreach (job_held job) layout l → ⊥
  unbroken l f s b = (sound_unbroken (job_held job) (held_accepted job layout f) layout).0 s l b.breach

  one_answer : (a b : Result (Unit {0}) CheckError) → (Holds job layout) a → (Holds job layout) b → a ≡ b
  one_answer (Err (Refused o)) (Err (Refused p)) h g = ap (λ (x : Refusal). Err (Refused x)) (one_fault o p h g)
  one_answer (Err (Refused o)) (Err LayoutTooLong) h g = absurd (g.0 o h.fault)
  one_answer (Err (Refused o)) (Ok u) h g = absurd (g.0 o h.fault)
  one_answer (Err (Refused o)) (Err (Broken l)) h g = absurd (g.0 o h.fault)
  one_answer (Err LayoutTooLong) (Err (Refused p)) h g = absurd (h.0 p g.fault)
  one_answer (Err LayoutTooLong) (Err LayoutTooLong) h g = refl
  one_answer (Err LayoutTooLong) (Ok u) h g = absurd (omega (arith, h.1, sound_short g.0 g.1))
  one_answer (Err LayoutTooLong) (Err (Broken l)) h g = absurd (omega (arith, h.1, g.1))
  one_answer (Ok u) (Err (Refused p)) h g = absurd (h.0 p g.fault)
  one_answer (Ok u) (Err LayoutTooLong) h g = absurd (omega (arith, g.1, sound_short h.0 h.1))
  one_answer (Ok u) (Ok v) h g = refl
  one_answer (Ok u) (Err (Broken l)) h g = absurd (unbroken l h.0 h.1 g.2)
  one_answer (Err (Broken l)) (Err (Refused p)) h g = absurd (h.0 p g.fault)
  one_answer (Err (Broken l)) (Err LayoutTooLong) h g = absurd (omega (arith, h.1, g.1))
  one_answer (Err (Broken l)) (Ok u) h g = absurd (unbroken l g.0 g.1 h.2)
  one_answer (Err (Broken l)) (Err (Broken m)) h g = ap (λ (x : ℕ). Err (Broken x)) (one_breach l m h.2 g.2)

  -- ---- an answer that holds is right

  fault_answer : (a : Result (Unit {0}) CheckError) → (Holds job layout) a → (o : Refusal) → Fault job o → (p : Refusal) × (a ≡ Err (Refused p))
  fault_answer (Err (Refused p)) h o f = (p, refl)
  fault_answer (Err LayoutTooLong) h o f = absurd (h.0 o f)
  fault_answer (Ok u) h o f = absurd (h.0 o f)
  fault_answer (Err (Broken l)) h o f = absurd (h.0 o f)

  unsound_answer : (a : Result (Unit {0}) CheckError) → (Holds job layout) a → Faultless job → length layout ≤ 64000 → (Sound (job_held job) layout → ⊥) → (l : ℕ) × (a ≡ Err (Broken l))
  unsound_answer (Err (Refused o)) h f n u = absurd (f o h.fault)
  unsound_answer (Err LayoutTooLong) h f n u = absurd (omega (arith, h.1))
  unsound_answer (Ok v) h f n u = absurd (u h.1)
  unsound_answer (Err (Broken l)) h f n u = (l, refl)

  right_where : (a : Result (Unit {0}) CheckError) → (Holds job layout) a → RightVerdict job layout a
  right_where a h =
      record {
        refused_for = λ o. (λ e. subst (Holds job layout) e h, one_answer a (Err (Refused o)) h);
        fault_refused = fault_answer a h;
        too_long_for = (λ e. subst (Holds job layout) e h, one_answer a (Err LayoutTooLong) h);
        passes_for = (λ e. subst (Holds job layout) e h, one_answer a (Ok tt) h);
        broken_for = λ l. (λ e. subst (Holds job layout) e h, one_answer a (Err (Broken l)) h);
        unsound_broken = unsound_answer a h;
      }

  -- ---- the answer of the definitions holds

  answer_holds : (y : Read) → read_job job ≡ y → (Holds job layout) (check_answer y layout)
  unfolding check_answer
  answer_holds (refused o) e = read_refused job o e
  answer_holds (accepted j) e =
      subst (λ (k : Job). (Holds job layout) (check_answer (accepted k) layout)) (sym (read_held job j e)) (accepted_holds job layout (read_faultless job j e))

  -- the theorem
  pub check_right : RightVerdict job layout (check_answer (read_job job) layout)
  check_right = right_where (check_answer (read_job job) layout) (answer_holds (read_job job) refl)

  -- and of an answer that is given
  pub right_verdict : (a : Result (Unit {0}) CheckError) → a ≡ check_answer (read_job job) layout →
      (a ≡ check_answer (read_job job) layout) × ((check_values a ≡ document_verdict (read_job job) layout) × RightVerdict job layout a)
  right_verdict a e = (e, (ap check_values e ∙ values_as job layout (read_job job), subst (RightVerdict job layout) (sym e) check_right))
