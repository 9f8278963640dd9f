-- What is promised of what is printed, taken out clause by clause: none of them asks less than its words say. Assumes nothing.
use mathlib.Core.Path.{◌≡◌, subst}
use Prim.Native.Nat.{ℕ}
use mathlib.Core.List.{List}
use lib.ListN.{take, replicate}
use Rattle.board.specs.Job.{Job}
use Rattle.text.specs.Written.{over}
use Rattle.jobfile.specs.Read.{read_job, accepted}
use Rattle.jobfile.specs.OfAccepted.{OfAccepted}
use Rattle.printing.specs.Printed.{printed_text}
use Rattle.files.specs.FileTexts.{text_of}
use Rattle.text.proofs.Writing.{start_written}
use Rattle.jobinput.specs.declared.PrintedInput.{PrintedInput}
use Rattle.jobinput.specs.InputPrinted.{InputPrinted, OfInput}

module _ (text : Job → List ℕ) (r : PrintedInput) (h : InputPrinted text r) where
  -- the bytes that are printed are the text or the refusal of the bytes that were read
  pub printed_is : take r.printed.used r.printed.bytes ≡ printed_text text (read_job (text_of r.job))
  printed_is = start_written h

  -- every byte of the buffer: what is printed, and behind it 0
  pub bytes_are : r.printed.bytes ≡ over (printed_text text (read_job (text_of r.job))) (replicate 64000 0)
  bytes_are = h.bytes

-- what is promised of the text is asked of the bytes that are printed, where the text that was read is accepted
pub input_is : (P : Job → List ℕ → Type 0) (r : PrintedInput) (job : Job) → read_job (text_of r.job) ≡ accepted job → OfInput P r → P job (take r.printed.used r.printed.bytes)
input_is P r job e h = subst (OfAccepted (λ j. P j (take r.printed.used r.printed.bytes))) e h
