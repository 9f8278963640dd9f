-- What a line leads to, by value, is what it leads to in the pass. What a wire adds: WireSteps.antt. Assumes nothing.
use Prim.Native.Nat.{ℕ, suc, ◌≤◌, ◌<◌}
use mathlib.Core.Path.{◌≡◌, refl, sym, ap, ◌∙◌}
use mathlib.Core.Bool.{Bool, true, false, ◌&&◌, and-false, false≢true}
use Rattle.std.specs.Prelude.{Option, None, Some, is_some, IfSome, Ok, Err, unwrap_or}
use mathlib.Core.List.{List}
use native.Mathlib.Omega.{arith}
use lib.Dec.{eqb, leb, ltb}
use lib.ListN.{length, get_or, set}
use borrow.Author.Tests.{eqb-true, lt-ltb}
use Rattle.lists.specs.Lists.{any_of, all_of}
use Rattle.lists.proofs.Cases.{and_split}
use Rattle.lists.proofs.Places.{mem_at}
use Rattle.board.specs.declared.Track.{Track}
use Rattle.board.specs.Job.{Job}
use Rattle.board.specs.Placement.{Placement}
use Rattle.board.specs.Stored.{no_net}
use Rattle.board.specs.Accepted.{AcceptedJob}
use Rattle.board.specs.Tests.{is_on}
use Rattle.candidates.specs.Placed.{none_or}
use Rattle.layout.specs.Tree.{Wire, Line, opens, track, wire, loose, closes}
use Rattle.drc.specs.Covers.{drawn_by}
use Rattle.drc.specs.Judge.{ends_track, is_in_turn, is_opening, is_unlined}
use Rattle.drc.specs.Pass.{Summary, add_track, add_wire, add_loose, PassState, unbegun, running, finished, PassStep, passes_on, or_broken, judged_track, pass_in_turn, pass_line}
use Rattle.judging.specs.declared.LinesAbove.{LinesAbove}
use Rattle.judging.specs.declared.LinesJudged.TheVariants as Is
use Rattle.judging.specs.Judged.{NetLines, KeepsSummary, KeepsState, KeepsStep}
use Rattle.judging.specs.Values.{is_under, last_of, position_numbered, broken_track, is_end_line}
use Rattle.judging.proofs.Remaining.{remaining_all}
use Rattle.judging.proofs.Turns.{some_last, above_last, can_stand, closes_off, judged_off, judged_on, unbroken}
use Rattle.judging.proofs.LinedNets.{lined_all, lined_not}
use Rattle.judging.proofs.Indexes.{index_number}
use Rattle.judging.proofs.LinesAdded.{line_added, unlined_none, unlined_some}

-- ---- the opening line

-- behind `(layout`
abbrev pub opened : LinesAbove
opened = record { track = record { 0 = 0 }; line = 0; remaining = Some 0; lowest = record { 0 = 0 }; last = None; breach = None }

pub opening_taken : (job : Job) (n : ℕ) (st : PassState) (stands : List (Option Track)) → KeepsState job st Is.Unbegun stands →
    KeepsStep job (pass_line job n st opens) (Ok (Is.Running opened)) stands
unfolding pass_line or_broken is_opening is_on any_of last_of
opening_taken job n unbegun stands k =
    let none_at : (i : ℕ) → get_or stands i None ≡ None = k.1 in
    record {
      track_is = refl;
      line_is = refl;
      remaining_is = remaining_all 0;
      lowest_is = refl;
      last_is = refl;
      breach_is = refl;
      lines_are = λ z. record {
        lined_at = λ i h. rw (none_at i);
        earlier_at = λ i h. rw (none_at i);
        room = k.0;
        to_track = λ i h. rw (none_at i) tt;
      };
    }
opening_taken job n (running m) stands k = absurd k
opening_taken job n finished stands k = absurd k

pub opening_running : (job : Job) (n : ℕ) (st : PassState) (j : LinesAbove) (stands : List (Option Track)) → KeepsState job st (Is.Running j) stands →
    KeepsStep job (pass_line job n st opens) (Err (unwrap_or j.breach n)) stands
unfolding can_stand is_in_turn
opening_running job n unbegun j stands k = absurd k
opening_running job n (running m) j stands k = closes_off job n (running m) opens (Is.Running j) stands k refl
opening_running job n finished j stands k = absurd k

pub opening_finished : (job : Job) (n : ℕ) (st : PassState) (stands : List (Option Track)) → KeepsState job st Is.Finished stands →
    KeepsStep job (pass_line job n st opens) (Err n) stands
unfolding can_stand
opening_finished job n unbegun stands k = absurd k
opening_finished job n (running m) stands k = absurd k
opening_finished job n finished stands k = closes_off job n finished opens Is.Finished stands k refl

-- ---- a line in its turn

in_turn : (job : Job) (n : ℕ) (m : Summary) (x : Line) → can_stand job (running m) x ≡ true → pass_line job n (running m) x ≡ pass_in_turn job n m x
unfolding can_stand pass_line
in_turn job n m x e = rw e

-- ---- a line above stands under the line of a track before the next, and so before each behind it

under_next : (t u : ℕ) (o : Option Track) → t < u → IfSome o (λ x. x.0 ≤ t) → is_some o ≡ is_under u o
under_next t u None l h = refl
under_next t u (Some x) l h = sym (lt-ltb x.0 u (omega arith))

to_next : (t u : ℕ) (o : Option Track) → t < u → IfSome o (λ x. x.0 ≤ t) → IfSome o (λ x. x.0 ≤ u)
to_next t u None l h = tt
to_next t u (Some x) l h = omega arith

module _ (job : Job) (n : ℕ) (j : LinesAbove) (stands : List (Option Track)) where
  -- a pass that keeps such lines runs
  runs : (st : PassState) (x : Line) → can_stand job st x ≡ true → KeepsState job st (Is.Running j) stands → (P : PassState → Type 0) →
      ((m : Summary) → can_stand job (running m) x ≡ true → KeepsSummary job m j stands → P (running m)) → P st
  runs unbegun x e k P f = absurd k
  runs (running m) x e k P f = f m e k
  runs finished x e k P f = absurd k

  -- a line that ends a track, which is broken
  ends_broken : (st : PassState) (x : Line) (y : Summary → PassStep) → ((m : Summary) → pass_in_turn job n m x ≡ judged_track m (y m)) → (l : ℕ) →
      broken_track j ≡ Some l → can_stand job st x ≡ true → KeepsState job st (Is.Running j) stands → KeepsStep job (pass_line job n st x) (Err l) stands
  ends_broken st x y ends l b e k =
      runs st x e k (λ s. KeepsStep job (pass_line job n s x) (Err l) stands)
      (λ m t h. rw (in_turn job n m x t, ends m, judged_off job m j stands h (y m) l b) refl)

  pub track_off : (st : PassState) (u s l : ℕ) → broken_track j ≡ Some l → can_stand job st (track u s) ≡ true → KeepsState job st (Is.Running j) stands →
      KeepsStep job (pass_line job n st (track u s)) (Err l) stands
  unfolding pass_in_turn
  track_off st u s = ends_broken st (track u s) (λ m. passes_on (running (add_track n u s m))) (λ m. refl)

  pub loose_off : (st : PassState) (i l : ℕ) → broken_track j ≡ Some l → can_stand job st (loose i) ≡ true → KeepsState job st (Is.Running j) stands →
      KeepsStep job (pass_line job n st (loose i)) (Err l) stands
  unfolding pass_in_turn
  loose_off st i = ends_broken st (loose i) (λ m. or_broken n (is_unlined job m.lined i && ltb m.last i) (passes_on (running (add_loose i m)))) (λ m. refl)

  pub closing_off : (st : PassState) (l : ℕ) → broken_track j ≡ Some l → can_stand job st closes ≡ true → KeepsState job st (Is.Running j) stands →
      KeepsStep job (pass_line job n st closes) (Err l) stands
  unfolding pass_in_turn
  closing_off st = ends_broken st closes (λ m. or_broken n (all_of (is_on m.lined) job.nets) (passes_on finished)) (λ m. refl)

  pub end_off : (st : PassState) (x : Line) (l : ℕ) → is_end_line x ≡ true → broken_track j ≡ Some l → can_stand job st x ≡ true → KeepsState job st (Is.Running j) stands →
      KeepsStep job (pass_line job n st x) (Err l) stands
  end_off st (loose i) l e = loose_off st i l
  end_off st closes l e = closing_off st l
  end_off st x l e = absurd (false≢true e)

  -- ---- a track line

  -- behind it
  abbrev under_track : ℕ → ℕ → LinesAbove
  under_track u s = record { track = record { 0 = u }; line = n; remaining = Some s; lowest = record { 0 = 0 }; last = j.last; breach = None }

  track_added : (u s : ℕ) (m : Summary) → m.track < u → KeepsSummary job m j stands → j.breach ≡ None → KeepsSummary job (add_track n u s m) (under_track u s) stands
  track_added u s m l h z =
      let old = h.lines_are z in
      record {
        track_is = refl;
        line_is = refl;
        remaining_is = remaining_all s;
        lowest_is = refl;
        last_is = h.last_is;
        breach_is = refl;
        lines_are = λ e. record {
          lined_at = old.lined_at;
          earlier_at = λ k g. old.lined_at k g ∙ under_next m.track u (get_or stands k None) l (old.to_track k g);
          room = old.room;
          to_track = λ k g. to_next m.track u (get_or stands k None) l (old.to_track k g);
        };
      }

  next_above : (u s : ℕ) (m : Summary) → can_stand job (running m) (track u s) ≡ true → m.track < u
  unfolding can_stand is_in_turn ends_track
  next_above u s m e =
      let t = and_split (eqb m.last 0) (eqb u (suc m.track) && leb u job.board.tracks) e in
      omega (arith, eqb-true u (suc m.track) (and_split (eqb u (suc m.track)) (leb u job.board.tracks) t.1).0)

  pub track_taken : (st : PassState) (u s : ℕ) → can_stand job st (track u s) ≡ true → broken_track j ≡ None → KeepsState job st (Is.Running j) stands →
      KeepsStep job (pass_line job n st (track u s)) (Ok (Is.Running (under_track u s))) stands
  unfolding pass_in_turn
  track_taken st u s e d k =
      runs st (track u s) e k (λ x. KeepsStep job (pass_line job n x (track u s)) (Ok (Is.Running (under_track u s))) stands)
      (λ m t h.
      rw (in_turn job n m (track u s) t, judged_on job m j stands h (passes_on (running (add_track n u s m))) d)
      (track_added u s m (next_above u s m t) h (unbroken j d)))

  -- ---- the closing line

  -- each of the nets has a line above
  abbrev pub AllLined : Type 0
  AllLined = (k : ℕ) → k < length job.nets → is_some (get_or stands k None) ≡ true

  pub closing_taken : (st : PassState) → can_stand job st closes ≡ true → broken_track j ≡ None → AllLined → KeepsState job st (Is.Running j) stands →
      KeepsStep job (pass_line job n st closes) (Ok Is.Finished) stands
  unfolding pass_in_turn or_broken
  closing_taken st e d t k =
      runs st closes e k (λ x. KeepsStep job (pass_line job n x closes) (Ok Is.Finished) stands)
      (λ m t' h.
      rw (
        in_turn job n m closes t',
        judged_on job m j stands h (or_broken n (all_of (is_on m.lined) job.nets) (passes_on finished)) d,
        lined_all (is_on m.lined) job.nets stands (h.lines_are (unbroken j d)).lined_at t,
      )
      tt)

  pub closing_broken : (st : PassState) → can_stand job st closes ≡ true → broken_track j ≡ None → (AllLined → ⊥) → KeepsState job st (Is.Running j) stands →
      KeepsStep job (pass_line job n st closes) (Err n) stands
  unfolding pass_in_turn or_broken
  closing_broken st e d t k =
      runs st closes e k (λ x. KeepsStep job (pass_line job n x closes) (Err n) stands)
      (λ m t' h.
      rw (
        in_turn job n m closes t',
        judged_on job m j stands h (or_broken n (all_of (is_on m.lined) job.nets) (passes_on finished)) d,
        lined_not (is_on m.lined) job.nets stands (h.lines_are (unbroken j d)).lined_at t,
      ))

  -- ---- a wire line, where it can stand

  pub wire_taken : (st : PassState) (w : Wire) (o : Option Placement) (i : LinesAbove) (after : List (Option Track)) → can_stand job st (wire w) ≡ true →
      KeepsState job st (Is.Running j) stands → drawn_by job j.track.0 w ≡ o →
      ((m : Summary) → KeepsSummary job m j stands → KeepsSummary job (add_wire job n w o m) i after) →
      KeepsStep job (pass_line job n st (wire w)) (Ok (Is.Running i)) after
  unfolding pass_in_turn
  wire_taken st w o i after e k d f =
      runs st (wire w) e k (λ x. KeepsStep job (pass_line job n x (wire w)) (Ok (Is.Running i)) after)
      (λ m t h.
      let drawn : drawn_by job m.track w ≡ o = ap (λ (t : ℕ). drawn_by job t w) h.track_is ∙ d in
      rw (in_turn job n m (wire w) t, drawn) (f m h))

  -- ---- a loose line

  module _ (a : AcceptedJob job) (number : ℕ) where
    -- behind a loose line that passes
    abbrev behind_loose : LinesAbove
    behind_loose = record {
      track = j.track;
      line = j.line;
      remaining = j.remaining;
      lowest = j.lowest;
      last = Some number;
      breach = j.breach;
    }

    -- its test fails
    pub loose_broken : (st : PassState) → can_stand job st (loose number) ≡ true → broken_track j ≡ None →
        ((m : Summary) → KeepsSummary job m j stands → NetLines job m stands → (is_unlined job m.lined number && ltb m.last number) ≡ false) →
        KeepsState job st (Is.Running j) stands → KeepsStep job (pass_line job n st (loose number)) (Err n) stands
    unfolding pass_in_turn or_broken
    loose_broken st e d fails k =
        runs st (loose number) e k (λ x. KeepsStep job (pass_line job n x (loose number)) (Err n) stands)
        (λ m t h.
        rw (
          in_turn job n m (loose number) t,
          judged_on job m j stands h (or_broken n (is_unlined job m.lined number && ltb m.last number) (passes_on (running (add_loose number m)))) d,
          fails m h (h.lines_are (unbroken j d)),
        ))

    -- no net has the number
    pub loose_unknown : (st : PassState) → can_stand job st (loose number) ≡ true → broken_track j ≡ None → None ≡ position_numbered number job.nets →
        KeepsState job st (Is.Running j) stands → KeepsStep job (pass_line job n st (loose number)) (Err n) stands
    loose_unknown st e d is = loose_broken st e d (λ m h old. rw (unlined_none job a m number is))

    module _ (index : ℕ) (is : Some index ≡ position_numbered number job.nets) where
      -- the number is one of a net
      positive : 1 ≤ number
      positive =
          let at = index_number job.nets number index is in
          let n = a.nets_each (get_or job.nets index no_net) (mem_at job.nets index no_net at.0) in
          omega (arith, n.in_range.number_range, at.1)

      -- it is above that of the last loose line
      abbrev is_later : Bool
      is_later = none_or (λ l. ltb l number) j.last

      later_same : (m : Summary) → last_of m.last ≡ j.last → ltb m.last number ≡ is_later
      later_same m e = sym (above_last m.last number positive) ∙ ap (λ (o : Option ℕ). none_or (λ l. ltb l number) o) e

      -- its net has a line above
      pub loose_lined : (st : PassState) → can_stand job st (loose number) ≡ true → broken_track j ≡ None → is_some (get_or stands index None) ≡ true →
          KeepsState job st (Is.Running j) stands → KeepsStep job (pass_line job n st (loose number)) (Err n) stands
      loose_lined st e d lined =
          loose_broken st e d (λ m h old. rw (unlined_some job a m stands old number index is, lined))

      -- it is not above the last
      pub loose_late : (st : PassState) → can_stand job st (loose number) ≡ true → broken_track j ≡ None → is_later ≡ false →
          KeepsState job st (Is.Running j) stands → KeepsStep job (pass_line job n st (loose number)) (Err n) stands
      loose_late st e d late = loose_broken st e d (λ m h old. rw (later_same m h.last_is ∙ late) (and-false (is_unlined job m.lined number)))

      loose_added : (m : Summary) → KeepsSummary job m j stands → j.breach ≡ None → is_some (get_or stands index None) ≡ false →
          KeepsSummary job (add_loose number m) behind_loose (set stands index (Some j.track))
      loose_added m h z new =
          let at = index_number job.nets number index is in
          record {
            track_is = h.track_is;
            line_is = h.line_is;
            remaining_is = h.remaining_is;
            lowest_is = h.lowest_is;
            last_is = some_last number positive;
            breach_is = h.breach_is;
            lines_are = λ f. line_added job a m (add_loose number m) stands index number j.track refl refl refl h.track_is at.0 at.1 new (h.lines_are z);
          }

      pub loose_taken : (st : PassState) → can_stand job st (loose number) ≡ true → broken_track j ≡ None → is_some (get_or stands index None) ≡ false → is_later ≡ true →
          KeepsState job st (Is.Running j) stands →
          KeepsStep job (pass_line job n st (loose number)) (Ok (Is.Running behind_loose)) (set stands index (Some j.track))
      unfolding pass_in_turn or_broken
      loose_taken st e d new above k =
          runs st (loose number) e k (λ x. KeepsStep job (pass_line job n x (loose number)) (Ok (Is.Running behind_loose)) (set stands index (Some j.track)))
          (λ m t h.
          let z = unbroken j d in
          rw (
            in_turn job n m (loose number) t,
            judged_on job m j stands h (or_broken n (is_unlined job m.lined number && ltb m.last number) (passes_on (running (add_loose number m)))) d,
            unlined_some job a m stands (h.lines_are z) number index is,
            new,
            later_same m h.last_is ∙ above,
          )
          (loose_added m h z new))
