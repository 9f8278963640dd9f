-- `drawn_by` and `covers_of` give the one placement that a wire draws. Assumes nothing.
use Prim.Native.Nat.{ℕ, ◌*◌, ◌-◌, ◌≤◌, ◌<◌}
use mathlib.Core.Path.{◌≡◌, refl, sym, ap, ap₂, ◌∙◌}
use mathlib.Core.Bool.{true, ◌&&◌}
use Rattle.std.specs.Prelude.{Some}
use mathlib.Core.List.{List, [], ◌∷◌}
use native.Mathlib.Omega.{arith}
use lib.Dec.{leb}
use borrow.Author.Tests.{ne_eqb, leb-true, le-leb}
use Rattle.lists.specs.Lists.{EachPair}
use Rattle.lists.proofs.Cases.{by_test, by_option, and_split, and_both}
use Rattle.board.specs.declared.Board.{Board}
use Rattle.board.specs.declared.Net.{Net}
use Rattle.board.specs.declared.Shape.{Shape}
use Rattle.board.specs.declared.Shape.TheVariants.{Plain, Stretched}
use Rattle.board.specs.Job.{Job}
use Rattle.board.specs.Placement.{Placement}
use Rattle.board.specs.Tests.{is_from_one, is_over_upper, is_under_lower, is_to_last}
use Rattle.board.proofs.ExactTests.{from_one_exact, over_upper_exact, under_lower_exact, to_last_exact}
use Rattle.layout.specs.declared.Point.{Point}
use Rattle.layout.specs.Tree.{Wire}
use Rattle.layout.specs.Drawing.{via_column, wire_column, at, same_point, distinct_from, corners, points_on, wire_of}
use Rattle.layout.specs.Drawn.{first_in, placement_from, placement_of, net_numbered}
use Rattle.layout.proofs.DrawnOnce.{same_point_true, same_point_refl, placement_back}
use Rattle.layout.proofs.RoundTrip.{only_some}
use Rattle.sound.proofs.Nets.{net_some, net_of}
use Rattle.drc.specs.Breach.{Draws}
use Rattle.drc.specs.Covers.{same_points, is_on_board, drawn_of, drawn_from, drawn_by, track_drawn, covers_of}
use Rattle.std.proofs.lemmas.Option.{none-some, same_Some}

pub same_points_true : (ps qs : List Point) → same_points ps qs ≡ true → ps ≡ qs
unfolding same_points
same_points_true [] [] h = refl
same_points_true [] (q ∷ qs) h = cc
same_points_true (p ∷ ps) [] h = cc
same_points_true (p ∷ ps) (q ∷ qs) h =
    let s = and_split (same_point p q) (same_points ps qs) h in
    ap₂ (λ x y. x ∷ y) (same_point_true p q s.0) (same_points_true ps qs s.1)

pub same_points_refl : (ps : List Point) → same_points ps ps ≡ true
unfolding same_points
same_points_refl [] = refl
same_points_refl (p ∷ ps) = and_both (same_point p p) (same_points ps ps) (same_point_refl p) (same_points_refl ps)

pub placement_net : (t : ℕ) (n : Net) (ps : List Point) → (placement_of t n ps).net ≡ n
unfolding placement_of placement_from
placement_net t n ps = by_option (first_in (wire_column t) ps) (λ e. rw (e, placement_from)) (λ u e. rw (e, placement_from))

-- ---- what is found is drawn
module _ (job : Job) (t : ℕ) (on_track : 1 ≤ t) (on_board : t ≤ job.board.tracks) where
  net_drawn : (w : Wire) (n : Net) (p : Placement) → net_numbered job w.number ≡ Some n → drawn_of job.board t w.points n ≡ Some p → Draws job t w p
  unfolding drawn_of is_on_board wire_of
  net_drawn w n p o h =
      let f = net_some job w.number n o in
      let q = placement_of t n w.points in
      let x = only_some (is_on_board job.board q && same_points (points_on job.board t q) w.points) q p h in
      let y = and_split (is_on_board job.board q) (same_points (points_on job.board t q) w.points) x.0 in
      let b = and_split (is_from_one q && is_over_upper q && is_under_lower q) (is_to_last job.board q) y.0 in
      let c = and_split (is_from_one q && is_over_upper q) (is_under_lower q) b.0 in
      let d = and_split (is_from_one q) (is_over_upper q) c.0 in
      let net : q.net ≡ n = placement_net t n w.points in
      let points = same_points_true (points_on job.board t q) w.points y.1 in
      let number : w.number ≡ q.net.number = sym f.1 ∙ ap (λ (m : Net). m.number) (sym net) in
      let draws : Draws job t w q = record {
        from_track = on_track;
        to_track = on_board;
        of_job = rw net f.0;
        from_one = (from_one_exact q).0 d.0;
        over_upper = (over_upper_exact q).0 d.1;
        under_lower = (under_lower_exact q).0 c.1;
        to_last = omega (arith, (to_last_exact job.board q).0 b.1);
        drawn = λ i. record { number = number i; points = sym points i };
      } in
      rw x.1 at draws

  pub drawn_some : (w : Wire) (p : Placement) → drawn_by job t w ≡ Some p → Draws job t w p
  unfolding drawn_by drawn_from
  drawn_some w p h =
      by_option (net_numbered job w.number)
      (λ e. absurd (none-some p (rw e at h)))
      (λ n e. net_drawn w n p e (rw e at h))

-- ---- what is drawn is found
module _ (job : Job) (t : ℕ) (rise : EachPair (λ a b. a.number < b.number) job.nets) where
  pub drawn_of_lem : (w : Wire) (p : Placement) → Draws job t w p → drawn_by job t w ≡ Some p
  unfolding drawn_by drawn_from drawn_of wire_of is_on_board
  drawn_of_lem w p d =
      let net : net_numbered job w.number ≡ Some p.net = ap (λ (v : Wire). net_numbered job v.number) d.drawn ∙ net_of job rise p.net d.of_job in
      let points : w.points ≡ points_on job.board t p = ap (λ (v : Wire). v.points) d.drawn in
      let back = placement_back job t d.from_track p (record { over_upper = d.over_upper; under_lower = d.under_lower }) in
      let board : is_on_board job.board p ≡ true =
      and_both _ _ (and_both _ _ (and_both _ _ ((from_one_exact p).1 d.from_one) ((over_upper_exact p).1 d.over_upper))
      ((under_lower_exact p).1 d.under_lower)) ((to_last_exact job.board p).1 d.to_last) in
      rw (net, points, back, board, same_points_refl (points_on job.board t p))

-- ---- a wire draws on one track

first_corner : (board : Board) (t : ℕ) → 1 ≤ t → (p : Placement) (s : Shape) (q : Point) → q.column ≡ 0 → track_drawn (q ∷ distinct_from q (corners board t p s)) ≡ t
unfolding corners distinct_from track_drawn same_point via_column
first_corner board t h p Plain q e = rw (e, ne_eqb 0 (2 * t - 1) (λ (z : 0 ≡ 2 * t - 1). omega arith)) (omega arith)
first_corner board t h p (Stretched x) q e = rw (e, ne_eqb 0 (2 * t - 1) (λ (z : 0 ≡ 2 * t - 1). omega arith)) (omega arith)

module _ (job : Job) where
  pub track_drawn_lem : (t : ℕ) (w : Wire) (p : Placement) → Draws job t w p → track_drawn w.points ≡ t
  unfolding wire_of points_on
  track_drawn_lem t w p d = ap (λ (v : Wire). track_drawn v.points) d.drawn ∙ first_corner job.board t d.from_track p p.shape (at 0 p.net.left.0) refl

  pub same_track : (t u : ℕ) (w : Wire) (p q : Placement) → Draws job t w p → Draws job u w q → u ≡ t
  same_track t u w p q d g = sym (track_drawn_lem u w q g) ∙ track_drawn_lem t w p d

  pub covers_some : (w : Wire) (p : Placement) → covers_of job w ≡ Some p → Draws job (track_drawn w.points) w p
  unfolding covers_of
  covers_some w p h =
      let t = track_drawn w.points in
      by_test (leb 1 t && leb t job.board.tracks)
      (λ e. let s = and_split (leb 1 t) (leb t job.board.tracks) e in drawn_some job t (leb-true 1 t s.0) (leb-true t job.board.tracks s.1) w p (rw e at h))
      (λ e. absurd (none-some p (rw e at h)))

  pub covers_of_lem : EachPair (λ a b. a.number < b.number) job.nets → (t : ℕ) (w : Wire) (p : Placement) → Draws job t w p → covers_of job w ≡ Some p
  unfolding covers_of
  covers_of_lem rise t w p d =
      rw (track_drawn_lem t w p d, le-leb 1 t d.from_track, le-leb t job.board.tracks d.to_track) (drawn_of_lem job t rise w p d)

  -- a wire draws one placement, on one track
  pub drawing_once : EachPair (λ a b. a.number < b.number) job.nets → (t u : ℕ) (w : Wire) (p q : Placement) → Draws job t w p → Draws job u w q → (t ≡ u) × (p ≡ q)
  drawing_once rise t u w p q d g =
      (same_track u t w q p g d, same_Some p q (sym (covers_of_lem rise t w p d) ∙ covers_of_lem rise u w q g))
