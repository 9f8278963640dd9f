-- The loop of read: the lines that are left decide. Assumes nothing.
use Rattle.std.specs.Prelude.{Option, None, Some, Ok, Err}
use mathlib.Core.Path.{◌≡◌, refl, sym, ap, ◌∙◌}
use mathlib.Core.List.{List, []}
use Prim.Native.Nat.{ℕ, suc, ◌+◌, ◌-◌, ◌≤◌, ◌<◌}
use native.Mathlib.Omega.{arith}
use native.Mathlib.Numerals.{add-one}
use lib.ListN.{length, take, drop}
use borrow.Author.Tests.{le-leb, lt-leb}
use Rattle.board.specs.declared.StoredJob.{StoredJob}
use Rattle.board.specs.Stored.{job_of, stored_of}
use Rattle.text.specs.Bytes.{lines}
use Rattle.lines.specs.Places.{step_at}
use Rattle.lines.specs.declared.Line.{Line}
use Rattle.lines.specs.declared.Place.{Place}
use Rattle.lines.specs.Stepped.{Stepped}
use Rattle.lines.proofs.Steps.{stepped, end_of_lines}
use Rattle.jobfile.specs.declared.Form.{Form}
use Rattle.jobfile.specs.declared.Refusal.{Refusal}
use Rattle.jobfile.specs.declared.Refusal.TheVariants.{TooLong, NotOfForm}
use Rattle.jobfile.specs.Forms.{read_form}
use Rattle.jobfile.specs.Read.{start, Next, stop, step, refused, ended, follow, read_from, read_job}
use Rattle.jobfile.specs.Answers.{no_job, answer_of}
use Rattle.jobsteps.specs.LinesAbove.{state_of, Filled, NetsAre, Held, Taken}
use Rattle.jobsteps.specs.declared.NetsRead.{NetsRead}
use Rattle.jobsteps.specs.declared.Stage.{Stage}
use Rattle.jobsteps.specs.declared.Stage.TheVariants as Stages
use Rattle.reader.specs.Cursors.{form_on, form_step}
use Rattle.reader.specs.Slots.{answer_with}
use Rattle.reader.specs.declared.cursor.Cursor.{Cursor}

-- the line behind a form that was read

record Behind (s : List ℕ) (r : Option Line) (x : Form) (n : Cursor) : Type 0 where
  line : Line
  line_is : Some line ≡ r
  next_is : line.next ≡ n.place
  form : x ≡ read_form (take (line.to - line.from) (drop line.from s))

behind : (s : List ℕ) (r : Option Line) (x : Form) (n : Cursor) → Some (x, n) ≡ form_on s r → Behind s r x n
unfolding form_on
behind s (Some l) x n e =
    let q : ◌≡◌ {A = Form × Cursor} (x, n) (read_form (take (l.to - l.from) (drop l.from s)), record { place = l.next }) = cc in
    record { line = l; line_is = refl; next_is = ap (λ (v : Form × Cursor). v.1.place) (sym q); form = ap (λ (v : Form × Cursor). v.0) q }
behind s None x n e = cc

none_left : (s : List ℕ) (r : Option Line) → None ≡ form_on s r → None ≡ r
unfolding form_on
none_left s (Some l) q = cc
none_left s None q = refl

-- the answer from the outcome and the slots

pub with_accepted : (slots : StoredJob) → answer_with (Ok tt) slots ≡ Ok slots
with_accepted slots = refl

pub with_refused : (o : Refusal) (slots : StoredJob) → answer_with (Err o) slots ≡ answer_of (refused o)
unfolding answer_of
with_refused o slots = refl

early : (k : ℕ) (stage : Stage) (slots : StoredJob) → (stage ≡ Stages.Closed → ⊥) → Err (NotOfForm k) ≡ answer_of (ended k (state_of stage slots))
unfolding state_of ended answer_of
early k Stages.Start slots n = refl
early k Stages.Opened slots n = refl
early k (Stages.Sized h) slots n = refl
early k Stages.Filled slots n = refl
early k Stages.Closed slots n = absurd (n refl)

-- a text whose lines from the reading place on are left, where those above are held
pub record LinesLeft (s : List ℕ) (stage : Stage) (a : NetsRead) (slots : StoredJob) (p : Cursor) : Type 0 where
  pub held : Held stage a slots
  pub counted : p.place.passed ≤ p.place.at
  pub inside : p.place.at ≤ length s
  pub rest : read_from 1 start (lines s) ≡ read_from (suc p.place.passed) (state_of stage slots) (lines (drop p.place.at s))

pub left_start : (s : List ℕ) (a : NetsRead) (slots : StoredJob) (p : Cursor) → NetsAre [] a → slots ≡ stored_of no_job → p.place.at ≡ 0 → p.place.passed ≡ 0 →
    LinesLeft s Stages.Start a slots p
unfolding state_of stored_of
left_start s a slots p n e f h =
    let t : (job_of slots).nets ≡ [] = ap (λ (w : StoredJob). (job_of w).nets) e in
    record { held = record { job_is = e; nets_are = rw t n }; counted = omega arith; inside = omega arith; rest = rw (f, h) }

module _ (s : List ℕ) (stage : Stage) (a : NetsRead) (slots : StoredJob) (p : Cursor) (w : LinesLeft s stage a slots p) where
  module _ (x : Form) (n : Cursor) (e : Some (x, n) ≡ form_step s p) where
    seen : Behind s (step_at s p.place) x n
    unfolding form_step
    seen = behind s (step_at s p.place) x n e

    moved : Stepped s p.place seen.line
    moved = stepped s p.place seen.line seen.line_is

    at_is : seen.line.next.at ≡ n.place.at
    at_is = ap (λ (q : Place). q.at) seen.next_is

    passed_is : seen.line.next.passed ≡ n.place.passed
    passed_is = ap (λ (q : Place). q.passed) seen.next_is

    abbrev led : Next
    led = step (p.place.passed + 1) (state_of stage slots) x

    turn : read_from 1 start (lines s) ≡ follow led (λ t. read_from (suc n.place.passed) t (lines (drop n.place.at s)))
    unfolding read_from
    turn =
        let q : suc p.place.passed ≡ n.place.passed = omega (arith, moved.counted, passed_is) in
        let t : p.place.passed + 1 ≡ n.place.passed = omega (arith, moved.counted, passed_is) in
        w.rest ∙ rw (moved.line, ← seen.form, q, t, at_is)

    pub left_ahead : p.place.at < n.place.at
    left_ahead = omega (arith, moved.ahead, at_is)

    pub left_within : n.place.at ≤ length s
    left_within = omega (arith, moved.within, at_is)

    pub left_refused : (o : Refusal) → led ≡ stop o → Err o ≡ answer_of (read_from 1 start (lines s))
    unfolding follow answer_of
    left_refused o q = rw (turn, q)

    pub left_taken : (t : Stage) (b : NetsRead) (more : StoredJob) → Taken led (Ok t) b more → LinesLeft s t b more n
    unfolding follow
    left_taken t b more g =
        record {
          held = g.1;
          counted = omega (arith, moved.counted, moved.ahead, at_is, passed_is, w.counted);
          inside = left_within;
          rest = turn ∙ rw g.0;
        }

  -- the end of the text
  module _ (e : None ≡ form_step s p) where
    pub left_over : read_from 1 start (lines s) ≡ ended (p.place.passed + 1) (state_of stage slots)
    unfolding form_step read_from
    left_over = w.rest ∙ (rw ((end_of_lines s p.place (none_left s (step_at s p.place) e)).0, add-one p.place.passed))

    pub ends_early : (stage ≡ Stages.Closed → ⊥) → Err (NotOfForm (p.place.passed + 1)) ≡ answer_of (read_from 1 start (lines s))
    ends_early n = early (p.place.passed + 1) stage slots n ∙ ap answer_of (sym left_over)

    pub ends_well : stage ≡ Stages.Closed → Ok slots ≡ answer_of (read_from 1 start (lines s))
    unfolding state_of ended answer_of
    ends_well c =
        let f : Filled slots = rw c at w.held.job_is in
        rw (left_over, c) (ap Ok (sym f.stored))

-- the length is tested first

pub too_long : (s : List ℕ) → 64000 < length s → Err TooLong ≡ answer_of (read_job s)
unfolding read_job answer_of
too_long s h = rw (lt-leb (length s) 64000 h)

pub not_too_long : (s : List ℕ) → length s ≤ 64000 → read_from 1 start (lines s) ≡ read_job s
unfolding read_job
not_too_long s h = rw (le-leb (length s) 64000 h)
