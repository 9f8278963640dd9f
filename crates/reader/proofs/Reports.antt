-- The line that a reading prints: its parts, its length, and that it is the one of the reading. A refusal names no line behind
-- 64,001. Assumes nothing.
use Rattle.std.specs.Prelude.{Ok, Err}
use mathlib.Core.Path.{◌≡◌, refl, ap, ◌∙◌}
use mathlib.Core.Bool.{Bool}
use mathlib.Core.List.{List, [], ◌∷◌, ◌++◌, append_assoc}
use Prim.Native.Nat.{ℕ, suc, ◌+◌, ◌≤◌}
use native.Mathlib.Omega.{arith}
use lib.Dec.{leb}
use lib.ListN.{length, length-append}
use borrow.Author.Tests.{leb-true}
use Rattle.lists.proofs.Cases.{by_test}
use Rattle.text.specs.Bytes.{is_end, joined, pieces, lines}
use Rattle.text.specs.Digits.{digits}
use Rattle.text.proofs.Numbers.{length_digits}
use Rattle.text.specs.Written.{Written}
use Rattle.board.specs.declared.StoredJob.{StoredJob}
use Rattle.jobfile.specs.declared.Refusal.{Refusal}
use Rattle.jobfile.specs.Forms.{read_form}
use Rattle.jobfile.specs.Read.{State, start, opened, sized, filled, closed, Next, go, stop, step, Read, accepted, refused, ended, follow, read_from, read_job}
use Rattle.jobfile.specs.Answers.{number_of, line_of, answer_of}
use Rattle.jobfile.proofs.RefusalNumbers.{number_below}
use Rattle.jobfile.proofs.Returned.{given_read, given_refused}
use Rattle.reader.proofs.RefusalLines.{OnLine, step_on}
use Rattle.reader.specs.Reports.{refused_text, accepted_text, report_text}

-- ---- the line that a refusal names

Bounded : ℕ → Read → Type 0
Bounded k (accepted job) = Unit {0}
Bounded k (refused o) = line_of o ≤ k

ended_line : (k : ℕ) (s : State) → Bounded k (ended k s)
unfolding Bounded ended
ended_line k start = omega arith
ended_line k opened = omega arith
ended_line k (sized h) = omega arith
ended_line k (filled job) = omega arith
ended_line k (closed job) = tt

follow_line : (j k : ℕ) (x : Next) (f : State → Read) → OnLine j x → j ≤ k → ((s : State) → Bounded k (f s)) → Bounded k (follow x f)
unfolding Bounded follow
follow_line j k (go s) f g h b = b s
follow_line j k (stop o) f g h b = omega (arith, g)

from_line : (j k : ℕ) (s : State) (ls : List (List ℕ)) → j + length ls ≡ k → Bounded k (read_from j s ls)
unfolding read_from
from_line j k s [] e = let q : j ≡ k = omega arith in rw (← q) (ended_line j s)
from_line j k s (l ∷ ls) e =
    follow_line j k (step j s (read_form l)) (λ t. read_from (suc j) t ls) (step_on j s (read_form l)) (omega arith)
    (λ t. from_line (suc j) k t ls (omega arith))

-- a text has no more lines than bytes
joined_few : (b : ℕ) (ps : List (List ℕ)) (k : ℕ) → length ps ≤ k → length (joined b ps) ≤ suc k
unfolding joined
joined_few b [] k h = omega arith
joined_few b (p ∷ ps) k h = omega arith

pieces_few : (f : ℕ → Bool) (s : List ℕ) → length (pieces f s) ≤ length s
unfolding pieces
pieces_few f [] = omega arith
pieces_few f (b ∷ bs) =
    let h = pieces_few f bs in
    by_test (f b) (λ e. rw e (omega arith)) (λ e. rw e (joined_few b (pieces f bs) (length bs) h))

bounded_more : (j k : ℕ) (r : Read) → j ≤ k → Bounded j r → Bounded k r
unfolding Bounded
bounded_more j k (accepted job) h b = tt
bounded_more j k (refused o) h b = omega arith

read_bounded : (text : List ℕ) → Bounded 64001 (read_job text)
unfolding read_job Bounded
read_bounded text =
    by_test (leb (length text) 64000)
    (λ e.
    let n = length (lines text) in
    rw e
    (bounded_more (1 + n) 64001 (read_from 1 start (lines text)) (omega (arith, pieces_few is_end text, leb-true (length text) 64000 e))
    (from_line 1 (1 + n) start (lines text) refl)))
    (λ e. rw e (omega arith))

-- ---- the text of a refusal

abbrev pub head : List ℕ
head = 40 ∷ 114 ∷ 101 ∷ 102 ∷ 117 ∷ 115 ∷ 101 ∷ 100 ∷ []

abbrev pub foot : List ℕ
foot = 41 ∷ 10 ∷ []

pub refused_parts : (n l : ℕ) → refused_text n l ≡ head ++ (32 ∷ digits n) ++ (32 ∷ digits l) ++ foot
unfolding refused_text
refused_parts n l = simp append_assoc

pub refused_length : (n l : ℕ) → length (refused_text n l) ≡ 12 + length (digits n) + length (digits l)
refused_length n l = ap length (refused_parts n l) ∙ simp length-append (omega arith)

refused_room : (o : Refusal) → line_of o ≤ 64001 → length (refused_text (number_of o) (line_of o)) ≤ 32
refused_room o h =
    omega (
      arith,
      refused_length (number_of o) (line_of o),
      length_digits 0 (number_of o) (omega (arith, number_below o)),
      length_digits 4 (line_of o) (omega arith),
    )

-- ---- the line of a reading

-- what was written is the line of the text's reading, where it is accepted
pub report_accepted : (text : List ℕ) (job : StoredJob) {s t : List ℕ} {r : ℕ} → Ok job ≡ answer_of (read_job text) → Written accepted_text s t r →
    Written (report_text (read_job text)) s t r
unfolding report_text
report_accepted text job e w = rw (given_read text job e) w

-- and where it is refused
module _ (text : List ℕ) (o : Refusal) (e : Err o ≡ answer_of (read_job text)) where
  pub report_room : length (refused_text (number_of o) (line_of o)) ≤ 32
  unfolding Bounded
  report_room = refused_room o (rw (given_refused text o e) at (read_bounded text))

  pub report_refused : {s t : List ℕ} {r : ℕ} → Written (refused_text (number_of o) (line_of o)) s t r → Written (report_text (read_job text)) s t r
  unfolding report_text
  report_refused w = rw (given_refused text o e) w

-- so is that of a refusal by itself
pub refused_short : (text : List ℕ) (o : Refusal) → read_job text ≡ refused o → length (refused_text (number_of o) (line_of o)) ≤ 32
unfolding Bounded
refused_short text o e = refused_room o (rw e at (read_bounded text))
