-- What is printed for the job on standard input.
use Rattle.std.specs.Prelude.{ℕ, List, replicate, take}
use Rattle.board.specs.Job.{Job}
use Rattle.text.specs.Written.{Written}
use Rattle.jobfile.specs.Read.{read_job}
use Rattle.jobfile.specs.OfAccepted.{OfAccepted}
use Rattle.printing.specs.Printed.{printed_text}
use Rattle.files.specs.FileTexts.{text_of}
use Rattle.jobinput.specs.declared.PrintedInput.{PrintedInput}

-- what is printed is the text of the job that was read, or its refusal
abbrev pub InputPrinted : (Job → List ℕ) → PrintedInput → Type 0
InputPrinted text r = Written (printed_text text (read_job (text_of r.job))) (replicate 64000 0) r.printed.bytes r.printed.used

-- P holds of the job that was read and of the text that is printed for it, where the job is accepted
abbrev pub OfInput : (Job → List ℕ → Type 0) → PrintedInput → Type 0
OfInput P r = OfAccepted (λ j. P j (take r.printed.used r.printed.bytes)) (read_job (text_of r.job))
