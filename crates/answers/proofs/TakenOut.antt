-- What is promised of an answer and of the bytes written, taken out case by case: each asks what its words say. Assumes nothing.
use Rattle.std.specs.Prelude.{Ok, Err}
use Prim.Native.Nat.{ℕ, ◌≤◌, ◌<◌}
use mathlib.Core.Path.{◌≡◌}
use mathlib.Core.List.{List}
use lib.ListN.{length, take}
use borrow.Author.Tests.{le-leb, lt-leb}
use Rattle.board.specs.Job.{Job}
use Rattle.jobfile.specs.Read.{accepted, read_job}
use Rattle.jobfile.specs.OfAccepted.{OfAccepted}
use Rattle.jobfile.specs.declared.Refusal.{Refusal}
use Rattle.jobfile.specs.Faults.{Fault, FirstFault}
use Rattle.answers.specs.declared.TextRefusal.TheVariants.{Refused, TooSmall}
use Rattle.answers.specs.Answers.{document_values, RightFor, OfWritten}

-- where the job is accepted and the answer is a length, the promise is about that many bytes of the buffer
pub written_is : (P : Job → List ℕ → Type 0) (job : Job) (n : ℕ) (out : List ℕ) → OfWritten P (accepted job) (Ok n) out → P job (take n out)
written_is P job n out h = h

module _ (Length : Job → ℕ → Type 0) (file : List ℕ) (room : ℕ) where
  -- a refusal names the first fault
  pub refused_is : (o : Refusal) → RightFor Length file room (Err (Refused o)) → FirstFault file o
  refused_is o h = h

  -- any other answer is for a file without a fault; its length is at most the buffer's where it is written, above it where it is needed
  pub length_is : (n : ℕ) → RightFor Length file room (Ok n) → ((o : Refusal) → Fault file o → ⊥) × (n ≤ room) × (n ≤ 64000)
  length_is n h = h

  pub too_small_is : (n : ℕ) → RightFor Length file room (Err (TooSmall n)) → ((o : Refusal) → Fault file o → ⊥) × (room < n) × (n ≤ 64000) × OfAccepted (λ j. Length j n) (read_job file)
  too_small_is n h = h

-- the document's values: 10, line 0 and the length needed where the text has more bytes than the buffer; otherwise 0, 0 and its length
module _ (text : Job → List ℕ) (job : Job) (room : ℕ) where
  pub small_values : room < length (text job) → document_values text (accepted job) room ≡ record { number = 10; line = 0; bytes = length (text job) }
  unfolding document_values
  small_values l = rw (lt-leb (length (text job)) room l)

  pub written_values : length (text job) ≤ room → document_values text (accepted job) room ≡ record { number = 0; line = 0; bytes = length (text job) }
  unfolding document_values
  written_values l = rw (le-leb (length (text job)) room l)
