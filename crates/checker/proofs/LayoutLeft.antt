-- The loop of check: the lines that are left decide. Assumes nothing.
use Prim.Native.Nat.{ℕ, zero, suc, ◌+◌, ◌-◌, ◌≤◌}
use mathlib.Core.Path.{◌≡◌, refl, sym, ap, ◌∙◌}
use Rattle.std.specs.Prelude.{Option, None, Some, Ok, Err}
use mathlib.Core.List.{List}
use native.Mathlib.Omega.{arith}
use lib.ListN.{length, get_or, take, drop, replicate}
use Rattle.board.specs.declared.Track.{Track}
use Rattle.board.specs.Job.{Job}
use Rattle.lines.specs.Places.{step_at}
use Rattle.lines.specs.Stepped.{Stepped}
use Rattle.lines.specs.declared.Place.{Place}
use Rattle.lines.specs.declared.Line.{Line}
use Rattle.lines.proofs.Steps.{stepped}
use Rattle.layoutforms.specs.LayoutForms.{layout_form_of}
use Rattle.drc.specs.Standing.{lines_read}
use Rattle.drc.specs.Judge.{Verdict, broken_at}
use Rattle.drc.specs.Pass.{PassState, unbegun, running, finished, PassStep, passes_on, decides, pass_ill_formed, pass_step, pass_end, after_step, pass_from, pass_over}
use Rattle.judging.specs.declared.LinesJudged.{LinesJudged}
use Rattle.judging.specs.declared.LinesJudged.TheVariants as Is
use Rattle.judging.specs.Judged.{KeepsState, KeepsStep}
use Rattle.judging.specs.Values.{track_of, closed_of, MapOf}
use Rattle.judging.proofs.Turns.{closes_ill_formed}
use Rattle.layoutsteps.specs.declared.LayoutLine.{LayoutLine}
use Rattle.layoutsteps.specs.LayoutSteps.{line_read, layout_on, layout_step, LineIs}
use Rattle.checker.specs.declared.CheckError.TheVariants.{Broken}
use Rattle.checker.specs.Answers.{verdict_answer}
use Rattle.layoutsteps.proofs.LayoutLines.{lines_ahead, none_ahead}
use Rattle.layoutsteps.proofs.LineForms.{read_bytes}

-- ---- the line that was read

-- the line of the text that x is
abbrev pub line_of : LayoutLine → Line
line_of x = record { from = x.from; to = x.to; next = x.next }

record Behind (s : List ℕ) (r : Option Line) (x : LayoutLine) : Type 0 where
  line : Some (line_of x) ≡ r
  form : x.form ≡ layout_form_of (line_read s x.from x.to x.next.at)

behind : (s : List ℕ) (r : Option Line) (x : LayoutLine) → Some x ≡ layout_on s r → Behind s r x
unfolding layout_on
behind s (Some l) x e =
    let o : x ≡ record { form = layout_form_of (line_read s l.from l.to l.next.at); from = l.from; to = l.to; next = l.next } = cc in
    rw o (record { line = refl; form = refl })
behind s None x e = cc

none_left : (s : List ℕ) (r : Option Line) → None ≡ layout_on s r → None ≡ r
unfolding layout_on
none_left s (Some l) q = cc
none_left s None q = refl

-- ---- what a line leads to

-- the verdict stands
decided : (job : Job) (y : PassStep) (l : ℕ) (stands : List (Option Track)) (f : PassState → Verdict) → KeepsStep job y (Err l) stands → after_step y f ≡ broken_at l
unfolding after_step
decided job (passes_on st) l stands f k = absurd k
decided job (decides v) l stands f k = k

-- the pass goes on
record GoesOn (job : Job) (y : PassStep) (j : LinesJudged) (stands : List (Option Track)) : Type 0 where
  state : PassState
  is : y ≡ passes_on state
  keeps : KeepsState job state j stands

undecided : (job : Job) (y : PassStep) (j : LinesJudged) (stands : List (Option Track)) → KeepsStep job y (Ok j) stands → GoesOn job y j stands
undecided job (passes_on st) j stands k = record { state = st; is = refl; keeps = k }
undecided job (decides v) j stands k = absurd k

-- ---- the lines that are left

-- a text whose lines from a place on are left, where j, `stands` and the block map of its track hold those above
pub record LayoutLeft (job : Job) (s : List ℕ) (j : LinesJudged) (stands : List (Option Track)) (words : List ℕ) (p : Place) : Type 0 where
  pub state : PassState
  pub keeps : KeepsState job state j stands
  pub map : MapOf job (track_of j).0 words
  pub counted : p.passed ≤ p.at
  pub inside : p.at ≤ length s
  pub rest : pass_over job s ≡ pass_from job (suc p.passed) state (lines_read (drop p.at s))

-- no net has a line above
none_stands : (n i : ℕ) → get_or {A = Option Track} (replicate n None) i None ≡ None
none_stands zero i = refl
none_stands (suc n) zero = refl
none_stands (suc n) (suc i) = none_stands n i

pub left_start : (job : Job) (s words : List ℕ) (p : Place) → length job.nets ≤ 512 → MapOf job 0 words → p.at ≡ 0 → p.passed ≡ 0 →
    LayoutLeft job s Is.Unbegun (replicate 512 None) words p
unfolding pass_over
left_start job s words p room blocks f h =
    record {
      state = unbegun;
      keeps = (room, none_stands 512);
      map = blocks;
      counted = omega arith;
      inside = omega arith;
      rest = rw (f, h);
    }

module _ (job : Job) (s : List ℕ) (j : LinesJudged) (stands : List (Option Track)) (words : List ℕ) (p : Place) (w : LayoutLeft job s j stands words p) where
  module _ (x : LayoutLine) (e : Some x ≡ layout_step s p) where
    seen : Behind s (step_at s p) x
    unfolding layout_step
    seen = behind s (step_at s p) x e

    pub left_moved : Stepped s p (line_of x)
    left_moved = stepped s p (line_of x) seen.line

    -- the line at hand
    pub left_line : LineIs (take (x.to - x.from) (drop x.from s)) (line_read s x.from x.to x.next.at) x.form
    left_line = record { form_is = seen.form; read_is = read_bytes s x.from x.to x.next }

    abbrev led : PassStep
    led = pass_step job (p.passed + 1) w.state (line_read s x.from x.to x.next.at)

    turn : pass_over job s ≡ after_step led (λ st. pass_from job (suc x.next.passed) st (lines_read (drop x.next.at s)))
    unfolding pass_from
    turn =
        let c = left_moved.counted in
        let q : suc p.passed ≡ p.passed + 1 = omega arith in
        let r : suc (suc p.passed) ≡ suc x.next.passed = omega arith in
        w.rest ∙ rw (lines_ahead s p (line_of x) seen.line, r, q)

    pub left_broken : (l : ℕ) (after : List (Option Track)) → KeepsStep job led (Err l) after → pass_over job s ≡ broken_at l
    left_broken l after k = turn ∙ decided job led l after _ k

    pub left_more : (i : LinesJudged) (after : List (Option Track)) (words' : List ℕ) → KeepsStep job led (Ok i) after → MapOf job (track_of i).0 words' →
        LayoutLeft job s i after words' x.next
    unfolding after_step
    left_more i after words' k blocks =
        let g = undecided job led i after k in
        let c = left_moved.counted in
        record {
          state = g.state;
          keeps = g.keeps;
          map = blocks;
          counted = omega (arith, left_moved.ahead, w.counted);
          inside = left_moved.within;
          rest = turn ∙ ap (λ (y : PassStep). after_step y (λ st. pass_from job (suc x.next.passed) st (lines_read (drop x.next.at s)))) g.is;
        }

  -- the end of the text
  pub left_over : None ≡ layout_step s p → pass_over job s ≡ pass_end (p.passed + 1) w.state
  unfolding layout_step pass_from
  left_over e =
      let q : suc p.passed ≡ p.passed + 1 = omega arith in
      w.rest ∙ rw (none_ahead s p (none_left s (step_at s p) e), q)

-- ---- the answers

pub answer_end : (job : Job) (s : List ℕ) (v : Verdict) → pass_over job s ≡ v → verdict_answer v ≡ verdict_answer (pass_over job s)
answer_end job s v e = ap verdict_answer (sym e)

pub answer_broken : (job : Job) (s : List ℕ) (l : ℕ) → pass_over job s ≡ broken_at l → Err (Broken l) ≡ verdict_answer (pass_over job s)
unfolding verdict_answer
answer_broken job s l e = answer_end job s (broken_at l) e

-- the end of the text

pub ends_sound : (job : Job) (st : PassState) (stands : List (Option Track)) (n : ℕ) → KeepsState job st Is.Finished stands → Ok tt ≡ verdict_answer (pass_end n st)
unfolding verdict_answer pass_end
ends_sound job unbegun stands n k = absurd k
ends_sound job (running m) stands n k = absurd k
ends_sound job finished stands n k = refl

-- before `)` the text stops early, which is broken as a line not of the form is
early_end : (job : Job) (st : PassState) (j : LinesJudged) (stands : List (Option Track)) (n : ℕ) → KeepsState job st j stands → (j ≡ Is.Finished → ⊥) →
    pass_end n st ≡ pass_ill_formed n st
unfolding pass_end pass_ill_formed
early_end job unbegun j stands n k d = refl
early_end job (running m) j stands n k d = refl
early_end job finished Is.Finished stands n k d = absurd (d refl)
early_end job finished j stands n k d = absurd k

pub ends_early : (job : Job) (st : PassState) (j : LinesJudged) (stands : List (Option Track)) (n : ℕ) → KeepsState job st j stands → (j ≡ Is.Finished → ⊥) →
    Err (Broken (closed_of j n)) ≡ verdict_answer (pass_end n st)
unfolding verdict_answer
ends_early job st j stands n k d = ap verdict_answer (sym (early_end job st j stands n k d ∙ closes_ill_formed job n st j stands k))
