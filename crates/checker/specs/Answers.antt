-- Document 01, "Operations", check: its answer, and the document's number, word and line of each answer.
use Rattle.std.specs.Prelude.{ℕ, Bool, true, false, cond, List, leb, length, Result, Ok, Err}
use Rattle.jobfile.specs.Read.{Read, accepted, refused}
use Rattle.jobfile.specs.Answers.{refusal_values}
use Rattle.drc.specs.Judge.{Verdict, sound_text, broken_at, judge}
use Rattle.checker.specs.declared.CheckError.{CheckError}
use Rattle.checker.specs.declared.CheckError.TheVariants.{Refused, LayoutTooLong, Broken}

-- what an answer says in the document's words: the number of a refusal, 0 where nothing is refused; whether the layout is broken; and the
-- line that is named, 0 where none is. Sound is neither refused nor broken
pub record CheckValues : Type 0 where
  pub number : ℕ
  pub broken : Bool
  pub line : ℕ

-- the number, the word and the line of each answer
abbrev pub check_values : Result (Unit {0}) CheckError → CheckValues
check_values (Err (Refused o)) = record { number = (refusal_values o).number; broken = false; line = (refusal_values o).line }
check_values (Err LayoutTooLong) = record { number = 11; broken = false; line = 0 }
check_values (Ok u) = record { number = 0; broken = false; line = 0 }
check_values (Err (Broken l)) = record { number = 0; broken = true; line = l }

-- the number, the word and the line of a verdict
unfoldable pub verdict_values : Verdict → CheckValues
verdict_values sound_text = record { number = 0; broken = false; line = 0 }
verdict_values (broken_at l) = record { number = 0; broken = true; line = l }

-- the number, the word and the line that the document gives a job file and a layout text: those of read's refusal; 11 and no line, if the
-- text is above 64,000 bytes; otherwise sound, or broken with the first broken line
unfoldable pub document_verdict : Read → List ℕ → CheckValues
document_verdict (refused o) layout = record { number = (refusal_values o).number; broken = false; line = (refusal_values o).line }
document_verdict (accepted job) layout = cond (leb (length layout) 64000) (verdict_values (judge job layout)) (record { number = 11; broken = false; line = 0 })

-- the answer for a verdict
unfoldable pub verdict_answer : Verdict → Result (Unit {0}) CheckError
verdict_answer sound_text = Ok tt
verdict_answer (broken_at l) = Err (Broken l)

-- the answer, by what the job file is read as and the layout text: refused as read does for the job, then 11 if the text is above 64,000
-- bytes, otherwise the verdict, which names the first broken line
unfoldable pub check_answer : Read → List ℕ → Result (Unit {0}) CheckError
check_answer (refused o) layout = Err (Refused o)
check_answer (accepted job) layout = cond (leb (length layout) 64000) (verdict_answer (judge job layout)) (Err LayoutTooLong)
