-- Lines that are called sound are those of a tree that keeps the rules line by line. Assumes nothing.
use Prim.Native.Nat.{ℕ, suc, ◌+◌, ◌≤◌}
use mathlib.Core.Path.{◌≡◌, refl, ap}
use mathlib.Core.Bool.{true, false, ◌&&◌, true≢false, false≢true}
use Rattle.std.specs.Prelude.{Option, None, Some}
use mathlib.Core.List.{List, [], ◌∷◌, ◌++◌, append_assoc, append-nil}
use native.Mathlib.Omega.{arith}
use lib.Dec.{eqb, leb}
use borrow.Author.Tests.{eqb-true, eq-eqb, le-leb}
use Rattle.lists.specs.Lists.{all_of}
use Rattle.lists.proofs.Cases.{by_test, and_split, and_both}
use Rattle.lists.proofs.Laws.{all_of_at}
use Rattle.board.specs.Job.{Job}
use Rattle.board.specs.Tests.{is_on}
use Rattle.board.proofs.ExactTests.{listed_on}
use Rattle.layout.specs.Tree.{Wire, DrawnTrack, Line, opens, track, wire, loose, closes}
use Rattle.layout.specs.LayoutText.{wires_then, tracks_then, loose_then}
use Rattle.sound.specs.Wires.{weight_of, sum_over, wire_numbers, track_numbers, wires_sum}
use Rattle.drc.specs.Standing.{Above, before_layout, in_layout, behind_layout, with_line, numbers_above}
use Rattle.drc.specs.Judge.{none_loose, ends_track, is_in_turn, is_opening, is_in_place, is_true_sum, keeps_rules, sound_text, at_text_end, judge_from}
use Rattle.drc.proofs.Lines.{of_form}
use Rattle.drc.proofs.InPlace.{under_track, next_in_turn}
use Rattle.drc.proofs.WireRule.{WireKept, wire_kept}
use Rattle.drc.proofs.LooseRule.{LooseKept, loose_kept}
use Rattle.drc.proofs.FirstBroken.{not_sound}
use Rattle.drc.proofs.RulesByLine.{end_lines, KeptWires, KeptTracks, KeptLoose, NoneMissing, tracks_count}

pub some_loose : (ns : List ℕ) (j : ℕ) → none_loose (ns ++ (j ∷ [])) ≡ false
unfolding none_loose
some_loose [] j = refl
some_loose (n ∷ ns) j = refl

module _ (job : Job) where
  -- ---- a line that the verdict goes past

  record PassedLine (n : ℕ) (a : Above) (x : Line) (ls : List (Option Line)) : Type 0 where
    in_place : is_in_place job a x ≡ true
    kept : keeps_rules job a x ls ≡ true
    rest : judge_from job (suc n) (with_line a x) ls ≡ sound_text

  passed : (n : ℕ) (a : Above) (x : Line) (ls : List (Option Line)) → judge_from job n a (Some x ∷ ls) ≡ sound_text → PassedLine n a x ls
  unfolding judge_from
  passed n a x ls h =
      by_test (is_in_place job a x && keeps_rules job a x ls)
      (λ e. let s = and_split (is_in_place job a x) (keeps_rules job a x ls) e in record { in_place = s.0; kept = s.1; rest = rw e at h })
      (λ e. absurd (not_sound n (rw e at h)))

  -- ---- the sum of the wires of a track is its number

  sum_is : (t s sum : ℕ) (earlier : List ℕ) (vs : List Wire) (trs : List DrawnTrack) (ks : List ℕ) → KeptTracks job t earlier trs →
      is_true_sum job t s sum (of_form (wires_then vs (tracks_then trs (end_lines ks)))) ≡ true → sum + wires_sum job vs ≡ s
  unfolding is_true_sum ends_track wires_then tracks_then loose_then wires_sum sum_over
  sum_is t s sum earlier (v ∷ vs) trs ks k h = omega (arith, sum_is t s (sum + weight_of job v.number) earlier vs trs ks k h)
  sum_is t s sum earlier [] (tr ∷ trs) ks k h =
      let count = tracks_count job (suc t) (earlier ++ wire_numbers tr.wires) trs k.3 in
      let x = and_both (eqb tr.track (suc t)) (leb tr.track job.board.tracks) (eq-eqb tr.track (suc t) k.0)
      (le-leb tr.track job.board.tracks (omega (arith, k.0))) in
      omega (arith, eqb-true sum s (rw x at h))
  sum_is t s sum earlier [] [] (j ∷ ks) k h = omega (arith, eqb-true sum s (rw (eq-eqb t job.board.tracks k) at h))
  sum_is t s sum earlier [] [] [] k h = omega (arith, eqb-true sum s (rw (eq-eqb t job.board.tracks k) at h))

  -- ---- what the lines below a line hold: wires of the track, tracks, loose lines

  record Remaining (t : ℕ) (earlier : List ℕ) (ws : List Wire) (ns : List ℕ) (ls : List (Option Line)) : Type 0 where
    vs : List Wire
    trs : List DrawnTrack
    ks : List ℕ
    lines_below : ls ≡ of_form (wires_then vs (tracks_then trs (end_lines ks)))
    wires : KeptWires job t earlier ws vs
    tracks : KeptTracks job t (earlier ++ wire_numbers (ws ++ vs)) trs
    looses : KeptLoose job ((earlier ++ wire_numbers (ws ++ vs)) ++ track_numbers trs) ns ks
    none_missing : NoneMissing job (((earlier ++ wire_numbers (ws ++ vs)) ++ track_numbers trs) ++ (ns ++ ks))
    -- behind a loose line come loose lines only
    behind_loose : none_loose ns ≡ false → (vs ≡ []) × (trs ≡ [])
    -- no wire stands before track 1
    before_tracks : t ≡ 0 → vs ≡ []

  closes_last : (t : ℕ) (earlier : List ℕ) (ws : List Wire) (ns : List ℕ) (ls : List (Option Line)) → ls ≡ [] → t ≡ job.board.tracks →
      all_of (is_on (numbers_above earlier ws ns)) job.nets ≡ true → Remaining t earlier ws ns (Some closes ∷ ls)
  unfolding loose_then wires_then tracks_then track_numbers
  closes_last t earlier ws ns ls e k c =
      record {
        vs = [];
        trs = [];
        ks = [];
        lines_below = ap (λ (l : List (Option Line)). Some closes ∷ l) e;
        wires = tt;
        tracks = k;
        looses = tt;
        none_missing = λ n i.
            rw (append-nil ws, append-nil (earlier ++ wire_numbers ws), append-nil ns)
            (listed_on (numbers_above earlier ws ns) n (all_of_at (is_on (numbers_above earlier ws ns)) job.nets n c i));
        behind_loose = λ _. (refl, refl);
        before_tracks = λ _. refl;
      }

  loose_above : (t : ℕ) (earlier : List ℕ) (ws : List Wire) (ns : List ℕ) (j : ℕ) (ls : List (Option Line)) →
      LooseKept job (earlier ++ wire_numbers ws) ns j → Remaining t earlier ws (ns ++ (j ∷ [])) ls → Remaining t earlier ws ns (Some (loose j) ∷ ls)
  unfolding loose_then wires_then tracks_then track_numbers
  loose_above t earlier ws ns j ls k r =
      let e = r.behind_loose (some_loose ns j) in
      let on : (earlier ++ wire_numbers (ws ++ r.vs)) ++ track_numbers r.trs ≡ earlier ++ wire_numbers ws =
      rw (e.0, e.1, append-nil ws, append-nil (earlier ++ wire_numbers ws)) in
      let after : ls ≡ of_form (end_lines r.ks) = rw (e.0, e.1) at r.lines_below in
      record {
        vs = r.vs;
        trs = r.trs;
        ks = j ∷ r.ks;
        lines_below = rw (e.0, e.1) (ap (λ (l : List (Option Line)). Some (loose j) ∷ l) after);
        wires = r.wires;
        tracks = r.tracks;
        looses = (rw on k, r.looses);
        none_missing = λ n i. rw (append_assoc ns (j ∷ []) r.ks) at (r.none_missing n i);
        behind_loose = λ _. e;
        before_tracks = λ _. e.0;
      }

  wire_above : (t : ℕ) (earlier : List ℕ) (ws : List Wire) (w : Wire) (ls : List (Option Line)) → 1 ≤ t →
      WireKept job t earlier ws w → Remaining t earlier (ws ++ (w ∷ [])) [] ls → Remaining t earlier ws [] (Some (wire w) ∷ ls)
  unfolding wires_then none_loose
  wire_above t earlier ws w ls o k r =
      let e = append_assoc ws (w ∷ []) r.vs in
      record {
        vs = w ∷ r.vs;
        trs = r.trs;
        ks = r.ks;
        lines_below = ap (λ (l : List (Option Line)). Some (wire w) ∷ l) r.lines_below;
        wires = (k, r.wires);
        tracks = rw e at r.tracks;
        looses = rw e at r.looses;
        none_missing = λ n i. rw e at (r.none_missing n i);
        behind_loose = λ z. absurd (true≢false z);
        before_tracks = λ (z : t ≡ 0). absurd (omega arith);
      }

  track_above : (t : ℕ) (earlier : List ℕ) (ws : List Wire) (s : ℕ) (ls : List (Option Line)) → is_true_sum job (suc t) s 0 ls ≡ true →
      Remaining (suc t) (earlier ++ wire_numbers ws) [] [] ls → Remaining t earlier ws [] (Some (track (suc t) s) ∷ ls)
  unfolding wires_then tracks_then track_numbers none_loose
  track_above t earlier ws s ls k r =
      let on = earlier ++ wire_numbers ws in
      let e = append_assoc on (wire_numbers r.vs) (track_numbers r.trs) in
      let sum = sum_is (suc t) s 0 (on ++ wire_numbers r.vs) r.vs r.trs r.ks r.tracks (rw r.lines_below at k) in
      record {
        vs = [];
        trs = record { track = suc t; sum = s; wires = r.vs } ∷ r.trs;
        ks = r.ks;
        lines_below = ap (λ (l : List (Option Line)). Some (track (suc t) s) ∷ l) r.lines_below;
        wires = tt;
        tracks = rw (append-nil ws) (refl, omega (arith, sum), r.wires, r.tracks);
        looses = rw (append-nil ws, ← e) r.looses;
        none_missing = λ n i. rw (append-nil ws, ← e) (r.none_missing n i);
        behind_loose = λ z. absurd (true≢false z);
        before_tracks = λ _. refl;
      }

  -- ---- one line after another

  abbrev SoundFrom : ℕ → ℕ → List ℕ → List Wire → List ℕ → List (Option Line) → Type 0
  SoundFrom n t earlier ws ns ls = judge_from job n (in_layout t earlier ws ns) ls ≡ sound_text

  track_case : (n t : ℕ) (earlier : List ℕ) (ws : List Wire) (ns : List ℕ) (u s : ℕ) (ls : List (Option Line)) → SoundFrom n t earlier ws ns (Some (track u s) ∷ ls) →
      (SoundFrom (suc n) u (earlier ++ wire_numbers ws) [] ns ls → Remaining u (earlier ++ wire_numbers ws) [] ns ls) → Remaining t earlier ws ns (Some (track u s) ∷ ls)
  unfolding keeps_rules with_line
  track_case n t earlier ws ns u s ls h f =
      let x = passed n (in_layout t earlier ws ns) (track u s) ls h in
      let c = next_in_turn job t earlier ws ns u s x.in_place in
      rw (c.in_turn, c.loose_none) (track_above t earlier ws s ls (rw c.in_turn at x.kept) (rw (c.in_turn, c.loose_none) at (f x.rest)))

  wire_case : (n t : ℕ) (earlier : List ℕ) (ws : List Wire) (ns : List ℕ) (w : Wire) (ls : List (Option Line)) → SoundFrom n t earlier ws ns (Some (wire w) ∷ ls) →
      (SoundFrom (suc n) t earlier (ws ++ (w ∷ [])) ns ls → Remaining t earlier (ws ++ (w ∷ [])) ns ls) → Remaining t earlier ws ns (Some (wire w) ∷ ls)
  unfolding keeps_rules with_line
  wire_case n t earlier ws ns w ls h f =
      let x = passed n (in_layout t earlier ws ns) (wire w) ls h in
      let c = under_track job t earlier ws ns w x.in_place in
      rw c.loose_none (wire_above t earlier ws w ls c.from_track (wire_kept job t earlier ws w x.kept) (rw c.loose_none at (f x.rest)))

  loose_case : (n t : ℕ) (earlier : List ℕ) (ws : List Wire) (ns : List ℕ) (j : ℕ) (ls : List (Option Line)) → SoundFrom n t earlier ws ns (Some (loose j) ∷ ls) →
      (SoundFrom (suc n) t earlier ws (ns ++ (j ∷ [])) ls → Remaining t earlier ws (ns ++ (j ∷ [])) ls) → Remaining t earlier ws ns (Some (loose j) ∷ ls)
  unfolding keeps_rules with_line
  loose_case n t earlier ws ns j ls h f =
      let x = passed n (in_layout t earlier ws ns) (loose j) ls h in
      loose_above t earlier ws ns j ls (loose_kept job (earlier ++ wire_numbers ws) ns j x.kept) (f x.rest)

  -- nothing stands behind the closing line
  behind_end : (n : ℕ) (ls : List (Option Line)) → judge_from job n behind_layout ls ≡ sound_text → ls ≡ []
  unfolding judge_from is_in_place
  behind_end n [] h = refl
  behind_end n (None ∷ ls) h = absurd (not_sound n h)
  behind_end n (Some x ∷ ls) h = absurd (not_sound n h)

  closes_case : (n t : ℕ) (earlier : List ℕ) (ws : List Wire) (ns : List ℕ) (ls : List (Option Line)) → SoundFrom n t earlier ws ns (Some closes ∷ ls) → Remaining t earlier ws ns (Some closes ∷ ls)
  unfolding is_in_place is_in_turn ends_track keeps_rules with_line
  closes_case n t earlier ws ns ls h =
      let x = passed n (in_layout t earlier ws ns) closes ls h in
      closes_last t earlier ws ns ls (behind_end (suc n) ls x.rest) (eqb-true t job.board.tracks x.in_place) x.kept

  opens_case : (n t : ℕ) (earlier : List ℕ) (ws : List Wire) (ns : List ℕ) (ls : List (Option Line)) → SoundFrom n t earlier ws ns (Some opens ∷ ls) → ⊥
  unfolding is_in_place is_in_turn
  opens_case n t earlier ws ns ls h = false≢true (passed n (in_layout t earlier ws ns) opens ls h).in_place

  remaining : (n t : ℕ) (earlier : List ℕ) (ws : List Wire) (ns : List ℕ) (ls : List (Option Line)) → SoundFrom n t earlier ws ns ls → Remaining t earlier ws ns ls
  unfolding judge_from at_text_end
  remaining n t earlier ws ns [] h = absurd (not_sound n h)
  remaining n t earlier ws ns (None ∷ ls) h = absurd (not_sound n h)
  remaining n t earlier ws ns (Some opens ∷ ls) h = absurd (opens_case n t earlier ws ns ls h)
  remaining n t earlier ws ns (Some (track u s) ∷ ls) h = track_case n t earlier ws ns u s ls h (remaining (suc n) u (earlier ++ wire_numbers ws) [] ns ls)
  remaining n t earlier ws ns (Some (wire w) ∷ ls) h = wire_case n t earlier ws ns w ls h (remaining (suc n) t earlier (ws ++ (w ∷ [])) ns ls)
  remaining n t earlier ws ns (Some (loose j) ∷ ls) h = loose_case n t earlier ws ns j ls h (remaining (suc n) t earlier ws (ns ++ (j ∷ [])) ls)
  remaining n t earlier ws ns (Some closes ∷ ls) h = closes_case n t earlier ws ns ls h

  -- ---- the whole tree

  -- a tree that keeps the rules, and its lines
  pub record KeptTree (ls : List (Option Line)) : Type 0 where
    pub trs : List DrawnTrack
    pub ks : List ℕ
    pub lines_are : ls ≡ of_form (opens ∷ tracks_then trs (end_lines ks))
    pub tracks : KeptTracks job 0 [] trs
    pub looses : KeptLoose job (track_numbers trs) [] ks
    pub none_missing : NoneMissing job (track_numbers trs ++ ks)

  behind_opening : (ls : List (Option Line)) → Remaining 0 [] [] [] ls → KeptTree (Some opens ∷ ls)
  unfolding wires_then
  behind_opening ls r =
      let e = r.before_tracks refl in
      record {
        trs = r.trs;
        ks = r.ks;
        lines_are = ap (λ (l : List (Option Line)). Some opens ∷ l) (rw e at r.lines_below);
        tracks = rw e at r.tracks;
        looses = rw e at r.looses;
        none_missing = λ n i. rw e at (r.none_missing n i);
      }

  pub sound_tree : (ls : List (Option Line)) → judge_from job 1 before_layout ls ≡ sound_text → KeptTree ls
  unfolding judge_from at_text_end is_in_place is_opening keeps_rules with_line
  sound_tree [] h = absurd (not_sound 1 h)
  sound_tree (None ∷ ls) h = absurd (not_sound 1 h)
  sound_tree (Some (track u s) ∷ ls) h = absurd (not_sound 1 h)
  sound_tree (Some (wire w) ∷ ls) h = absurd (not_sound 1 h)
  sound_tree (Some (loose j) ∷ ls) h = absurd (not_sound 1 h)
  sound_tree (Some closes ∷ ls) h = absurd (not_sound 1 h)
  sound_tree (Some opens ∷ ls) h = behind_opening ls (remaining 2 0 [] [] [] ls h)
