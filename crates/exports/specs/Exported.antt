-- What the exported functions give, of what a text is read as.
use Rattle.std.specs.Prelude.{ℕ, ◌≡◌, Bool, true, false, Result}
use Rattle.jobfile.specs.Read.{Read, accepted, refused}
use Rattle.jobfile.specs.Answers.{number_of}
use Rattle.planning.specs.Plan.{plan_of}
use Rattle.planning.specs.Loose.{sum_of_tracks}
use Rattle.answers.specs.declared.TextRefusal.{TextRefusal}
use Rattle.answers.specs.Answers.{answer_values}
use Rattle.checker.specs.declared.CheckError.{CheckError}
use Rattle.checker.specs.Answers.{check_values}

-- the number of a refusal; 0 where the text is accepted
unfoldable pub refusal_of : Read → ℕ
refusal_of (accepted job) = 0
refusal_of (refused o) = number_of o

-- the sums of all tracks of the job's plan, added up; 0 where the text is refused
unfoldable pub plan_sum : Read → ℕ
plan_sum (accepted job) = sum_of_tracks (plan_of job)
plan_sum (refused o) = 0

-- an answer of an operation that writes a text has this number, line and bytes in document 01's numbers
pub record RepliesWith (a : Result ℕ TextRefusal) (number line bytes : ℕ) : Type 0 where
  pub number_is : number ≡ (answer_values a).number
  pub line_is : line ≡ (answer_values a).line
  pub bytes_is : bytes ≡ (answer_values a).bytes

-- a yes or no as a number
unfoldable pub one_if : Bool → ℕ
one_if true = 1
one_if false = 0

-- an answer of check has this number, line and word in document 01's words: broken is 1 where the layout is broken, otherwise 0
pub record CheckRepliesWith (a : Result (Unit {0}) CheckError) (number line broken : ℕ) : Type 0 where
  pub number_is : number ≡ (check_values a).number
  pub line_is : line ≡ (check_values a).line
  pub broken_is : broken ≡ one_if (check_values a).broken
