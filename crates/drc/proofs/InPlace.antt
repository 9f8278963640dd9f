-- The test of which line can stand there is exact. Assumes nothing.
use Prim.Native.Nat.{ℕ, suc, ◌≤◌}
use mathlib.Core.Path.{◌≡◌, refl, sym, ◌∙◌}
use mathlib.Core.Bool.{true, false, ◌&&◌, true≢false, false≢true}
use mathlib.Core.List.{List, [], ◌∷◌}
use lib.Dec.{eqb, leb}
use borrow.Author.Tests.{eqb-true, eq-eqb, leb-true, le-leb}
use native.Mathlib.Omega.{arith}
use Rattle.lists.proofs.Cases.{and_split, and_both}
use Rattle.board.specs.Job.{Job}
use Rattle.layout.specs.Tree.{Wire, Line, opens, track, wire, loose, closes}
use Rattle.drc.specs.Standing.{Above, before_layout, in_layout, behind_layout, CanStand, opening_first, track_in_turn, wire_under_track, loose_behind_tracks, closing_behind_tracks}
use Rattle.drc.specs.Judge.{none_loose, ends_track, is_in_turn, is_opening, is_in_place}

pub no_loose_lines : (ns : List ℕ) → none_loose ns ≡ true → ns ≡ []
unfolding none_loose
no_loose_lines [] h = refl
no_loose_lines (k ∷ ns) h = absurd (false≢true h)

module _ (job : Job) where
  pub can_stand_of : (a : Above) (x : Line) → is_in_place job a x ≡ true → CanStand job a x
  unfolding is_in_place is_opening is_in_turn ends_track none_loose
  can_stand_of before_layout opens h = opening_first
  can_stand_of before_layout (track u s) h = absurd (false≢true h)
  can_stand_of before_layout (wire w) h = absurd (false≢true h)
  can_stand_of before_layout (loose k) h = absurd (false≢true h)
  can_stand_of before_layout closes h = absurd (false≢true h)
  can_stand_of (in_layout t earlier ws ns) opens h = absurd (false≢true h)
  can_stand_of (in_layout t earlier ws []) (track u s) h =
      let b = and_split (eqb u (suc t)) (leb u job.board.tracks) h in
      track_in_turn {t = t} {u = u} (omega (arith, eqb-true u (suc t) b.0)) (leb-true u job.board.tracks b.1)
  can_stand_of (in_layout t earlier ws (k ∷ ns)) (track u s) h = absurd (false≢true h)
  can_stand_of (in_layout t earlier ws []) (wire w) h =
      let b = and_split (leb 1 t) (leb t job.board.tracks) h in
      wire_under_track (leb-true 1 t b.0) (leb-true t job.board.tracks b.1)
  can_stand_of (in_layout t earlier ws (k ∷ ns)) (wire w) h = absurd (false≢true h)
  can_stand_of (in_layout t earlier ws ns) (loose k) h = loose_behind_tracks (eqb-true t job.board.tracks h)
  can_stand_of (in_layout t earlier ws ns) closes h = closing_behind_tracks (eqb-true t job.board.tracks h)
  can_stand_of behind_layout x h = absurd (false≢true h)

  pub in_place_of : {a : Above} {x : Line} → CanStand job a x → is_in_place job a x ≡ true
  unfolding is_in_place is_opening is_in_turn ends_track none_loose
  in_place_of opening_first = refl
  in_place_of (track_in_turn {t = t} {u = u} e l) =
      and_both (eqb u (suc t)) (leb u job.board.tracks) (eq-eqb u (suc t) e) (le-leb u job.board.tracks l)
  in_place_of (wire_under_track {t = t} a b) =
      and_both (leb 1 t) (leb t job.board.tracks) (le-leb 1 t a) (le-leb t job.board.tracks b)
  in_place_of (loose_behind_tracks {t = t} e) = eq-eqb t job.board.tracks e
  in_place_of (closing_behind_tracks {t = t} e) = eq-eqb t job.board.tracks e

  pub not_in_place : (a : Above) (x : Line) → is_in_place job a x ≡ false → CanStand job a x → ⊥
  not_in_place a x h c = true≢false (sym (in_place_of c) ∙ h)

  -- ---- what a line in its place tells of the lines above

  -- a wire stands under a track line of the board, with no loose line above it
  pub record UnderTrack (t : ℕ) (ns : List ℕ) : Type 0 where
    pub from_track : 1 ≤ t
    pub to_track : t ≤ job.board.tracks
    pub loose_none : ns ≡ []

  pub under_track : (t : ℕ) (earlier : List ℕ) (ws : List Wire) (ns : List ℕ) (w : Wire) → is_in_place job (in_layout t earlier ws ns) (wire w) ≡ true → UnderTrack t ns
  unfolding is_in_place is_in_turn
  under_track t earlier ws ns w h =
      let a = and_split (none_loose ns && leb 1 t) (leb t job.board.tracks) h in
      let b = and_split (none_loose ns) (leb 1 t) a.0 in
      record { from_track = leb-true 1 t b.1; to_track = leb-true t job.board.tracks a.1; loose_none = no_loose_lines ns b.0 }

  -- a track line is the next in turn, with no loose line above it
  pub record NextTrack (t u : ℕ) (ns : List ℕ) : Type 0 where
    pub in_turn : u ≡ suc t
    pub to_track : u ≤ job.board.tracks
    pub loose_none : ns ≡ []

  pub next_in_turn : (t : ℕ) (earlier : List ℕ) (ws : List Wire) (ns : List ℕ) (u s : ℕ) → is_in_place job (in_layout t earlier ws ns) (track u s) ≡ true → NextTrack t u ns
  unfolding is_in_place is_in_turn ends_track
  next_in_turn t earlier ws ns u s h =
      let a = and_split (none_loose ns) (eqb u (suc t) && leb u job.board.tracks) h in
      let b = and_split (eqb u (suc t)) (leb u job.board.tracks) a.1 in
      record { in_turn = eqb-true u (suc t) b.0; to_track = leb-true u job.board.tracks b.1; loose_none = no_loose_lines ns a.0 }
