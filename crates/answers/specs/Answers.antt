-- Document 01, "Operations", and document 02: an operation reads a job file and writes a text for its job into a lent buffer. Its answer, the
-- buffer afterwards, and the document's number and values of each answer, for whatever text is written: the parameter `text` gives it.
use Rattle.std.specs.Prelude.{ℕ, ◌≤◌, ◌<◌, cond, List, leb, length, take, Result, Ok, Err}
use Rattle.board.specs.Job.{Job}
use Rattle.text.specs.Written.{over}
use Rattle.jobfile.specs.Read.{Read, accepted, refused, read_job}
use Rattle.jobfile.specs.OfAccepted.{OfAccepted}
use Rattle.jobfile.specs.declared.Refusal.{Refusal}
use Rattle.jobfile.specs.Answers.{refusal_values}
use Rattle.jobfile.specs.Faults.{Fault, FirstFault}
use Rattle.answers.specs.declared.TextRefusal.{TextRefusal}
use Rattle.answers.specs.declared.TextRefusal.TheVariants.{Refused, TooSmall}

-- what an answer says in the document's numbers: the number of a refusal, 0 where nothing is refused; the line that it names, 0 where it
-- names none; and a length, that of the text written, or the one needed, 0 where read refuses
pub record AnswerValues : Type 0 where
  pub number : ℕ
  pub line : ℕ
  pub bytes : ℕ

-- the number and values of each answer
abbrev pub answer_values : Result ℕ TextRefusal → AnswerValues
answer_values (Err (Refused o)) = record { number = (refusal_values o).number; line = (refusal_values o).line; bytes = 0 }
answer_values (Err (TooSmall n)) = record { number = 10; line = 0; bytes = n }
answer_values (Ok n) = record { number = 0; line = 0; bytes = n }

-- the number and values that the document gives a job file and a buffer: those of read's refusal; 10, no line and the length needed, if the
-- text has more bytes than the buffer; otherwise no refusal, and the length. The test of the room stands again in the two definitions below; the
-- clauses of an operation hold the three together
unfoldable pub document_values : (Job → List ℕ) → Read → ℕ → AnswerValues
document_values text (refused o) room = record { number = (refusal_values o).number; line = (refusal_values o).line; bytes = 0 }
document_values text (accepted job) room = let n = length (text job) in record { number = cond (leb n room) 0 10; line = 0; bytes = n }

-- the answer for the text t of an accepted job and the length of the buffer: 10 if t has more bytes than the buffer, otherwise its length
unfoldable pub answer_for : List ℕ → ℕ → Result ℕ TextRefusal
answer_for t room = let n = length t in cond (leb n room) (Ok n) (Err (TooSmall n))

-- the buffer afterwards: untouched if t has more bytes, otherwise t, and then the bytes that stood beyond it
unfoldable pub buffer_for : List ℕ → List ℕ → List ℕ
buffer_for t before = cond (leb (length t) (length before)) (over t before) before

-- the answer, by what the job file is read as and the length of the buffer: refused as read does, then as above
unfoldable pub text_answer : (Job → List ℕ) → Read → ℕ → Result ℕ TextRefusal
text_answer text (refused o) room = Err (Refused o)
text_answer text (accepted job) room = answer_for (text job) room

-- the buffer afterwards: untouched where read refuses
unfoldable pub buffer_after : (Job → List ℕ) → Read → List ℕ → List ℕ
buffer_after text (refused o) before = before
buffer_after text (accepted job) before = buffer_for (text job) before

-- the answer is for the faults of the job file and the room, which is the length of the buffer: a refusal of read's names the first fault; any
-- other answer is for a file without a fault, and its length is at most 64,000: at most the room where it is written, above the room where
-- it is needed, and then `Length` has it: `Length j n` says that 10 may name n for the job j
abbrev pub RightFor : (Job → ℕ → Type 0) → List ℕ → ℕ → Result ℕ TextRefusal → Type 0
RightFor Length file room (Err (Refused o)) = FirstFault file o
RightFor Length file room (Err (TooSmall n)) = ((o : Refusal) → Fault file o → ⊥) × (room < n) × (n ≤ 64000) × OfAccepted (λ j. Length j n) (read_job file)
RightFor Length file room (Ok n) = ((o : Refusal) → Fault file o → ⊥) × (n ≤ room) × (n ≤ 64000)

-- P holds of the job and of the text written: where the job file is accepted and the answer is a length, the first bytes of the buffer,
-- as many as the answer says; elsewhere nothing is written, and nothing is asked
abbrev pub OfWritten : (Job → List ℕ → Type 0) → Read → Result ℕ TextRefusal → List ℕ → Type 0
OfWritten P (accepted job) (Ok n) out = P job (take n out)
OfWritten P (accepted job) (Err (TooSmall n)) out = Unit {0}
OfWritten P (accepted job) (Err (Refused o)) out = Unit {0}
OfWritten P (refused o) a out = Unit {0}
