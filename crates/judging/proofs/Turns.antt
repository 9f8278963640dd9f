-- Where a pass stands by value: which line can stand there, where the judging closes, and where the wires of a track end. Assumes nothing.
use Prim.Native.Nat.{ℕ, suc, ◌+◌, ◌≤◌}
use mathlib.Core.Path.{◌≡◌, refl, sym, ◌∙◌}
use mathlib.Core.Bool.{Bool, true, false, ◌&&◌, and-false, and-true, false≢true}
use Rattle.std.specs.Prelude.{Option, None, Some, is_none, Err, unwrap_or}
use mathlib.Core.List.{List}
use native.Mathlib.Omega.{arith}
use lib.Dec.{eqb, leb, ltb}
use borrow.Author.Tests.{eqb-true, ne_eqb, lt-ltb}
use Rattle.lists.proofs.Cases.{by_test}
use Rattle.board.specs.declared.Track.{Track}
use Rattle.board.specs.Job.{Job}
use Rattle.candidates.specs.Placed.{none_or}
use Rattle.layout.specs.Tree.{Wire, Line, track, wire, loose, closes}
use Rattle.drc.specs.Judge.{ends_track, is_in_turn, is_opening, broken_at}
use Rattle.drc.specs.Pass.{Summary, PassState, unbegun, running, finished, PassStep, decides, closed_at, unless_breach, judged_track, or_broken, pass_line, pass_ill_formed}
use Rattle.judging.specs.declared.LinesAbove.{LinesAbove}
use Rattle.judging.specs.declared.LinesJudged.{LinesJudged}
use Rattle.judging.specs.declared.LinesJudged.TheVariants as Is
use Rattle.judging.specs.Judged.{KeepsSummary, KeepsState, KeepsStep}
use Rattle.judging.specs.Values.{last_of, closed_of, is_used_up, broken_track, is_track_turn, is_wire_turn, is_end_line}
use Rattle.judging.proofs.Remaining.{used_up}

-- ---- the last loose line

-- none stands above
pub no_last : (n : ℕ) → is_none (last_of n) ≡ eqb n 0
unfolding last_of
no_last n = by_test (eqb n 0) (λ t. rw t) (λ t. rw t)

-- one does
pub some_last : (n : ℕ) → 1 ≤ n → last_of n ≡ Some n
unfolding last_of
some_last n h = rw (ne_eqb n 0 (λ (z : n ≡ 0). omega arith))

-- a number above it
pub above_last : (n k : ℕ) → 1 ≤ k → none_or (λ l. ltb l k) (last_of n) ≡ ltb n k
unfolding last_of
above_last n k h =
    by_test (eqb n 0)
    (λ t.
    let z : n ≡ 0 = eqb-true n 0 t in
    rw t (sym (lt-ltb n k (omega arith))))
    (λ t. rw t)

-- the next track in turn is one of the board
next_track : (b : Bool) (t u k : ℕ) → (b && ltb t k && eqb u (t + 1)) ≡ (b && (eqb u (suc t) && leb u k))
next_track b t u k =
    let e : t + 1 ≡ suc t = omega arith in
    rw e
    (by_test (eqb u (suc t))
    (λ f.
    let s : u ≡ suc t = eqb-true u (suc t) f in
    rw (f, and-true (b && ltb t k), s))
    (λ f. rw (f, and-false (b && ltb t k)) (sym (and-false b))))

-- ---- the judging closes

closed_same : (o : Option ℕ) (n : ℕ) → closed_at o n ≡ broken_at (unwrap_or o n)
unfolding closed_at
closed_same None n = refl
closed_same (Some l) n = refl

module _ (job : Job) where
  -- a line not of the form
  pub closes_ill_formed : (n : ℕ) (st : PassState) (j : LinesJudged) (stands : List (Option Track)) → KeepsState job st j stands → pass_ill_formed n st ≡ broken_at (closed_of j n)
  unfolding pass_ill_formed
  closes_ill_formed n unbegun Is.Unbegun stands k = refl
  closes_ill_formed n (running m) (Is.Running j) stands k = rw k.breach_is (closed_same j.breach n)
  closes_ill_formed n finished Is.Finished stands k = refl
  closes_ill_formed n st j stands k = absurd k

  -- the line can stand where the pass stands
  unfoldable pub can_stand : PassState → Line → Bool
  can_stand unbegun x = is_opening x
  can_stand (running m) x = is_in_turn job m.track (eqb m.last 0) x
  can_stand finished x = false

  -- a line that cannot
  closed_verdict : (n : ℕ) (st : PassState) (x : Line) → can_stand st x ≡ false → pass_line job n st x ≡ decides (pass_ill_formed n st)
  unfolding can_stand pass_line pass_ill_formed or_broken
  closed_verdict n unbegun x e = rw e
  closed_verdict n (running m) x e = rw e
  closed_verdict n finished x e = refl

  pub closes_off : (n : ℕ) (st : PassState) (x : Line) (j : LinesJudged) (stands : List (Option Track)) → KeepsState job st j stands → can_stand st x ≡ false →
      KeepsStep job (pass_line job n st x) (Err (closed_of j n)) stands
  closes_off n st x j stands k e = rw (closed_verdict n st x e) (closes_ill_formed n st j stands k)

  -- only the opening line can stand where `(layout` does not stand above, and none behind `)`
  pub idle_off : (n : ℕ) (st : PassState) (x : Line) (j : LinesJudged) (stands : List (Option Track)) → is_opening x ≡ false → ((i : LinesAbove) → j ≡ Is.Running i → ⊥) →
      KeepsState job st j stands → KeepsStep job (pass_line job n st x) (Err n) stands
  unfolding can_stand
  idle_off n unbegun x Is.Unbegun stands o d k = closes_off n unbegun x Is.Unbegun stands k o
  idle_off n finished x Is.Finished stands o d k = closes_off n finished x Is.Finished stands k refl
  idle_off n (running m) x (Is.Running j) stands o d k = absurd (d j refl)
  idle_off n st x j stands o d k = absurd k

  end_not_opening : (x : Line) → is_end_line x ≡ true → is_opening x ≡ false
  unfolding is_opening
  end_not_opening (loose i) e = refl
  end_not_opening closes e = refl
  end_not_opening x e = absurd (false≢true e)

  pub end_idle : (n : ℕ) (st : PassState) (x : Line) (j : LinesJudged) (stands : List (Option Track)) → is_end_line x ≡ true → ((i : LinesAbove) → j ≡ Is.Running i → ⊥) →
      KeepsState job st j stands → KeepsStep job (pass_line job n st x) (Err n) stands
  end_idle n st x j stands e = idle_off n st x j stands (end_not_opening x e)

  -- ---- which line can stand there, on values

  module _ (k : ℕ) (is : job.board.tracks ≡ k) (j : LinesAbove) (stands : List (Option Track)) where
    pub track_place : (st : PassState) (u s : ℕ) → KeepsState job st (Is.Running j) stands → is_track_turn k j u ≡ can_stand st (track u s)
    unfolding can_stand is_in_turn ends_track
    track_place unbegun u s h = absurd h
    track_place (running m) u s h = rw (← h.last_is, no_last m.last, h.track_is, is) (next_track (eqb m.last 0) j.track.0 u k)
    track_place finished u s h = absurd h

    pub wire_place : (st : PassState) (w : Wire) → KeepsState job st (Is.Running j) stands → is_wire_turn k j ≡ can_stand st (wire w)
    unfolding can_stand is_in_turn
    wire_place unbegun w h = absurd h
    wire_place (running m) w h = rw (← h.last_is, no_last m.last, h.track_is, is)
    wire_place finished w h = absurd h

    pub loose_place : (st : PassState) (i : ℕ) → KeepsState job st (Is.Running j) stands → eqb j.track.0 k ≡ can_stand st (loose i)
    unfolding can_stand is_in_turn ends_track
    loose_place unbegun i h = absurd h
    loose_place (running m) i h = rw (h.track_is, is)
    loose_place finished i h = absurd h

    pub closing_place : (st : PassState) → KeepsState job st (Is.Running j) stands → eqb j.track.0 k ≡ can_stand st closes
    unfolding can_stand is_in_turn ends_track
    closing_place unbegun h = absurd h
    closing_place (running m) h = rw (h.track_is, is)
    closing_place finished h = absurd h

    -- a loose line or the closing line
    pub end_place : (st : PassState) (x : Line) → is_end_line x ≡ true → KeepsState job st (Is.Running j) stands → eqb j.track.0 k ≡ can_stand st x
    end_place st (loose i) e h = loose_place st i h
    end_place st closes e h = closing_place st h
    end_place st x e h = absurd (false≢true e)

    -- a line whose test is passed, and one whose test fails
    module _ (m : LinesJudged) (runs : m ≡ Is.Running j) (st : PassState) (x : Line) (passed : Bool)
        (told : KeepsState job st (Is.Running j) stands → passed ≡ can_stand st x) (h : KeepsState job st m stands) where
      pub in_place : passed ≡ true → (KeepsState job st (Is.Running j) stands) × (can_stand st x ≡ true)
      in_place t = let g = rw runs at h in (g, sym (told g) ∙ t)

      pub out_of_place : (n : ℕ) → passed ≡ false → KeepsStep job (pass_line job n st x) (Err (unwrap_or j.breach n)) stands
      out_of_place n t = let g = rw runs at h in closes_off n st x (Is.Running j) stands g (sym (told g) ∙ t)

  -- ---- the wires of a track end

  module _ (m : Summary) (j : LinesAbove) (stands : List (Option Track)) (h : KeepsSummary job m j stands) (x : PassStep) where
    judged_as : judged_track m x ≡ unless_breach (broken_track j) x
    unfolding judged_track unless_breach
    judged_as = rw (← used_up m.printed m.sum, h.remaining_is, h.line_is, h.breach_is) (by_test (is_used_up j.remaining) (λ t. rw t) (λ t. rw t))

    -- the verdict stands
    pub judged_off : (l : ℕ) → broken_track j ≡ Some l → judged_track m x ≡ decides (broken_at l)
    unfolding unless_breach
    judged_off l e = judged_as ∙ rw e

    -- the pass goes on
    pub judged_on : broken_track j ≡ None → judged_track m x ≡ x
    unfolding unless_breach
    judged_on e = judged_as ∙ rw e

-- no wire of a track that is not broken is
pub unbroken : (j : LinesAbove) → broken_track j ≡ None → j.breach ≡ None
unbroken j e =
    by_test (is_used_up j.remaining)
    (λ t. rw t at e)
    (λ t. let f : Some j.line ≡ None = rw t at e in let z : ◌≡◌ {A = ℕ} 0 1 = cc in absurd (omega arith))
