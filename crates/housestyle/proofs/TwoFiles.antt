-- Order 1 of two job files: the bytes that house writes for them are the same exactly where their jobs agree in board and nets and hold the
-- same blocks equally often; and house of a fixed text writes that text again. Assumes nothing.
use Rattle.std.specs.Prelude.{Ok}
use Prim.Native.Nat.{ℕ}
use mathlib.Core.Path.{◌≡◌, refl, sym, subst, ◌∙◌}
use mathlib.Core.Logic.{◌↔◌}
use mathlib.Core.List.{List}
use lib.ListN.{length, take}
use Rattle.board.specs.Job.{Job}
use Rattle.board.specs.Accepted.{AcceptedJob}
use Rattle.jobfile.specs.Read.{accepted, read_job}
use Rattle.jobfile.proofs.Accepts.{read_accepted}
use Rattle.house.specs.HouseText.{house_text, SameJob}
use Rattle.house.specs.Promises.{IsFixed}
use Rattle.house.proofs.HouseRead.{one_text}
use Rattle.house.proofs.Promised.{house_again}
use Rattle.answers.specs.Answers.{answer_for, buffer_for, text_answer, buffer_after, OfWritten}
use Rattle.answers.proofs.Answering.{held_given}

-- what house writes for an accepted job file is its fixed text
written_fixed : (file before : List ℕ) (job : Job) (n : ℕ) → read_job file ≡ accepted job → text_answer house_text (read_job file) (length before) ≡ Ok n →
    take n (buffer_after house_text (read_job file) before) ≡ house_text job
written_fixed file before job n e r =
    let after = buffer_after house_text (read_job file) before in
    let h : OfWritten IsFixed (read_job file) (text_answer house_text (read_job file) (length before)) after = held_given house_text file before (refl, refl) IsFixed (λ j a. refl) in
    let w : OfWritten IsFixed (read_job file) (Ok n) after = subst (λ a. OfWritten IsFixed (read_job file) a after) r h in
    subst (λ y. OfWritten IsFixed y (Ok n) after) e w

module _ (file₁ file₂ before₁ before₂ : List ℕ) (job₁ job₂ : Job) (n₁ n₂ : ℕ)
    (read₁ : read_job file₁ ≡ accepted job₁) (read₂ : read_job file₂ ≡ accepted job₂)
    (answer₁ : text_answer house_text (read_job file₁) (length before₁) ≡ Ok n₁) (answer₂ : text_answer house_text (read_job file₂) (length before₂) ≡ Ok n₂) where
  pub same_bytes : (take n₁ (buffer_after house_text (read_job file₁) before₁) ≡ take n₂ (buffer_after house_text (read_job file₂) before₂)) ↔ SameJob job₁ job₂
  same_bytes =
      let w₁ = written_fixed file₁ before₁ job₁ n₁ read₁ answer₁ in
      let w₂ = written_fixed file₂ before₂ job₂ n₂ read₂ answer₂ in
      let one = one_text job₁ job₂ (read_accepted file₁ job₁ read₁) (read_accepted file₂ job₂ read₂) in
      (λ e. one.0 (sym w₁ ∙ e ∙ w₂), λ s. w₁ ∙ one.1 s ∙ sym w₂)

-- the fixed text of an accepted job as the job file: the answer and the buffer are those of that text
pub same_again : (job : Job) → AcceptedJob job → (before : List ℕ) →
    (text_answer house_text (read_job (house_text job)) (length before) ≡ answer_for (house_text job) (length before)) ×
    (buffer_after house_text (read_job (house_text job)) before ≡ buffer_for (house_text job) before)
unfolding text_answer buffer_after
same_again job a before = let h = house_again job a in rw (h.1.0, ← h.1.1) (refl, refl)
