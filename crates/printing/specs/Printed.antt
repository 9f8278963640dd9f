-- Document 01, "Operations", and document 02: what a program prints that writes a text for a job.
use Rattle.std.specs.Prelude.{ℕ, ◌≤◌, ◌≡◌, List, length, Result, Ok, Err}
use Rattle.board.specs.Job.{Job}
use Rattle.text.specs.Written.{Written}
use Rattle.jobfile.specs.Read.{Read, accepted, refused}
use Rattle.jobfile.specs.Answers.{number_of, line_of}
use Rattle.reader.specs.Reports.{refused_text}
use Rattle.answers.specs.declared.TextRefusal.{TextRefusal}
use Rattle.answers.specs.Answers.{answer_values}

-- what is printed, by what the job file is read as: the text, or `(refused number line)`. Every text has room, so 10 does not come up
unfoldable pub printed_text : (Job → List ℕ) → Read → List ℕ
printed_text text (accepted job) = text job
printed_text text (refused o) = refused_text (number_of o) (line_of o)

-- the line of the refusal, if there is one, fits into the buffer
abbrev pub RefusalFits : Result ℕ TextRefusal → List ℕ → Type 0
RefusalFits (Ok n) out = Unit {0}
RefusalFits (Err e) out = length (refused_text (answer_values (Err e)).number (answer_values (Err e)).line) ≤ length out

-- how the buffer with a text becomes what is printed, of which there are r bytes: it stays as it is where the text was written; otherwise
-- the line of the refusal is written over its start
abbrev pub Reported : Result ℕ TextRefusal → List ℕ → List ℕ → ℕ → Type 0
Reported (Ok n) before after r = (r ≡ n) × (after ≡ before)
Reported (Err e) before after r = Written (refused_text (answer_values (Err e)).number (answer_values (Err e)).line) before after r
