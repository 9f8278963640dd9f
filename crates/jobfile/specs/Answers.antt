-- Document 01, "Operations", read: the document's number and the line of each refusal of read, and what read returns. The numbers above 9
-- are not read's: they stand in the definitions of route's and check's own answers.
use Rattle.std.specs.Prelude.{ℕ, List, Result, Ok, Err}
use Rattle.board.specs.declared.StoredJob.{StoredJob}
use Rattle.board.specs.Job.{Job}
use Rattle.board.specs.Stored.{stored_of}
use Rattle.jobfile.specs.declared.Refusal.{Refusal}
use Rattle.jobfile.specs.declared.Refusal.TheVariants.{TooLong, NotOfForm, OutOfRange, TooMany, NumberNotAbove, PinUsed, SameRow, NoLength, TooFewRows}
use Rattle.jobfile.specs.Read.{board_of, empty_job, Read, accepted, refused, read_job}

-- what a refusal says in the document's numbers: its number, and the line that it names, 0 where it names none
pub record RefusalValues : Type 0 where
  pub number : ℕ
  pub line : ℕ

-- the number and the line of each refusal of read
abbrev pub refusal_values : Refusal → RefusalValues
refusal_values TooLong = record { number = 1; line = 0 }
refusal_values (NotOfForm k) = record { number = 2; line = k }
refusal_values (OutOfRange k) = record { number = 3; line = k }
refusal_values (TooMany k) = record { number = 4; line = k }
refusal_values (NumberNotAbove k) = record { number = 5; line = k }
refusal_values (PinUsed k) = record { number = 6; line = k }
refusal_values (SameRow k) = record { number = 7; line = k }
refusal_values (NoLength k) = record { number = 8; line = k }
refusal_values (TooFewRows k) = record { number = 9; line = k }

-- the number of a refusal
abbrev pub number_of : Refusal → ℕ
number_of o = (refusal_values o).number

-- the line of a refusal
abbrev pub line_of : Refusal → ℕ
line_of o = (refusal_values o).line

-- the job to which no line has added yet: no rows, no tracks, no nets, no blocks
abbrev pub no_job : Job
no_job = empty_job (board_of 0 0)

-- what read returns: an accepted job by value, or the refusal and no job
unfoldable pub answer_of : Read → Result StoredJob Refusal
answer_of (accepted job) = Ok (stored_of job)
answer_of (refused o) = Err o

-- what read returns of a text
abbrev pub answer : List ℕ → Result StoredJob Refusal
answer text = answer_of (read_job text)
