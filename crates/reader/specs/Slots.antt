-- The answer of read, from the outcome of its lines and the slots that they filled.
use Rattle.std.specs.Prelude.{Result, Ok, Err}
use Rattle.board.specs.declared.StoredJob.{StoredJob}
use Rattle.jobfile.specs.declared.Refusal.{Refusal}

-- the job in the slots where no line is refused, otherwise the refusal, whatever the slots hold
abbrev pub answer_with : Result (Unit {0}) Refusal → StoredJob → Result StoredJob Refusal
answer_with (Ok u) slots = Ok slots
answer_with (Err o) slots = Err o
