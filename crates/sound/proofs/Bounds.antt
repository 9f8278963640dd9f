-- Every number of a sound layout has at most six digits, and its text has at most 64,000 bytes. Assumes nothing.
use Prim.Native.Nat.{ℕ, suc, ◌+◌, ◌*◌, ◌≤◌, ◌<◌}
use mathlib.Core.Path.{◌≡◌, refl, ap}
use mathlib.Core.Bool.{true}
use mathlib.Core.List.Memᴰ
use mathlib.Core.List.{List, [], ◌∷◌, ◌++◌, map}
use native.Mathlib.Omega.{arith}
use lib.Dec.{ltb}
use lib.ListN.{length, length-map, length-append}
use borrow.Author.Tests.{lt-ltb}
use Rattle.lists.specs.Lists.{Each}
use Rattle.lists.proofs.Cases.{by_test, and_both}
use Rattle.lists.proofs.Laws.{Each-map}
use Rattle.lists.proofs.Joins.{Each-each, Each-mapped}
use Rattle.board.specs.declared.Board.{Board}
use Rattle.board.specs.declared.Shape.{Shape}
use Rattle.board.specs.declared.Shape.TheVariants.{Plain, Stretched}
use Rattle.board.specs.Length.{width}
use Rattle.board.specs.Job.{Job}
use Rattle.board.specs.Placement.{Placement, bottom}
use Rattle.board.specs.Accepted.{BoardInRange, NetInRange, AcceptedJob}
use Rattle.board.proofs.Weights.{job_weight}
use Rattle.text.specs.Digits.{digits}
use Rattle.text.proofs.Numbers.{length_digits}
use Rattle.layout.specs.declared.Point.{Point}
use Rattle.layout.specs.Tree.{Wire, DrawnTrack, Layout, Line, track, wire, loose, closes}
use Rattle.layout.specs.LayoutText.{points_then, line_text, lines_text, wires_then, tracks_then, loose_then, layout_lines, layout_text}
use Rattle.layout.specs.ReadBack.{small_points, small_line, small_lines, is_small}
use Rattle.layout.specs.Drawing.{via_column, wire_column, at, same_point, distinct_from, near_row, far_row, corners, points_on, wire_of}
use Rattle.layout.proofs.OnGrid.{distinct_each}
use Rattle.sound.specs.Wires.{wire_numbers, track_numbers, line_numbers, printed_sum}
use Rattle.sound.specs.Sound.{SoundTracks, Sound}
use Rattle.sound.proofs.Balance.{balance, lines_count}

-- ---- bounds of a layout

pub record PointBound (p : Point) : Type 0 where
  pub column : p.column < 1000
  pub row : p.row < 10000

pub record WireBound (w : Wire) : Type 0 where
  pub number : w.number < 10000
  pub count : length w.points ≤ 8
  pub points : Each PointBound w.points

pub record TrackBound (tr : DrawnTrack) : Type 0 where
  pub number : tr.track < 1000
  pub sum : tr.sum < 1000000
  pub wires : Each WireBound tr.wires

pub record Bounded (l : Layout) : Type 0 where
  pub tracks : Each TrackBound l.tracks
  pub loose : Each (λ k. k < 10000) l.loose

-- ---- bounded layouts have small numbers

small : (n : ℕ) → n < 1000000 → is_small n ≡ true
small n h = lt-ltb n 1000000 h

small_points_lem : (ps : List Point) → Each PointBound ps → small_points ps ≡ true
unfolding small_points
small_points_lem [] b = refl
small_points_lem (p ∷ ps) b =
    and_both _ _ (and_both _ _ (small p.column (omega arith)) (small p.row (omega arith))) (small_points_lem ps b.1)

small_wires : (ws : List Wire) (rest : List Line) → Each WireBound ws → small_lines rest ≡ true → small_lines (wires_then ws rest) ≡ true
unfolding small_lines wires_then small_line
small_wires [] rest b h = h
small_wires (w ∷ ws) rest b h =
    and_both _ _ (and_both _ _ (small w.number (omega arith)) (small_points_lem w.points b.0.points)) (small_wires ws rest b.1 h)

small_tracks : (trs : List DrawnTrack) (rest : List Line) → Each TrackBound trs → small_lines rest ≡ true → small_lines (tracks_then trs rest) ≡ true
unfolding small_lines tracks_then small_line
small_tracks [] rest b h = h
small_tracks (tr ∷ trs) rest b h =
    and_both _ _ (and_both _ _ (small tr.track (omega arith)) (small tr.sum (omega arith)))
    (small_wires tr.wires (tracks_then trs rest) b.0.wires (small_tracks trs rest b.1 h))

small_loose : (ns : List ℕ) (rest : List Line) → Each (λ k. k < 10000) ns → small_lines rest ≡ true → small_lines (loose_then ns rest) ≡ true
unfolding small_lines loose_then small_line
small_loose [] rest b h = h
small_loose (n ∷ ns) rest b h = and_both _ _ (small n (omega arith)) (small_loose ns rest b.1 h)

pub bounded_small : (l : Layout) → Bounded l → small_lines (layout_lines l) ≡ true
unfolding layout_lines small_lines small_line
bounded_small l b = small_tracks l.tracks (loose_then l.loose (closes ∷ [])) b.tracks (small_loose l.loose (closes ∷ []) b.loose refl)

-- ---- bounded layouts have short texts

digits_3 : (n : ℕ) → n < 1000 → length (digits n) ≤ 3
digits_3 n h = length_digits 2 n h

digits_4 : (n : ℕ) → n < 10000 → length (digits n) ≤ 4
digits_4 n h = length_digits 3 n h

digits_6 : (n : ℕ) → n < 1000000 → length (digits n) ≤ 6
digits_6 n h = length_digits 5 n h

points_length : (ps : List Point) (rest : List ℕ) → Each PointBound ps → length (points_then ps rest) ≤ 11 * length ps + length rest
unfolding points_then
points_length [] rest b = omega arith
points_length (p ∷ ps) rest b =
    let c = digits_3 p.column b.0.column in
    let r = digits_4 p.row b.0.row in
    let h = points_length ps rest b.1 in
    simp length-append (omega arith)

pub wire_length : (w : Wire) → WireBound w → length (line_text (wire w)) ≤ 100
unfolding line_text
wire_length w b =
    let n = digits_4 w.number b.number in
    let h = points_length w.points (41 ∷ []) b.points in
    simp length-append (omega arith)

track_length : (t n : ℕ) → t < 1000 → n < 1000000 → length (line_text (track t n)) ≤ 19
unfolding line_text
track_length t n a b =
    let x = digits_3 t a in
    let y = digits_6 n b in
    simp length-append (omega arith)

loose_length : (n : ℕ) → n < 10000 → length (line_text (loose n)) ≤ 100
unfolding line_text
loose_length n a =
    let x = digits_4 n a in
    simp length-append (omega arith)

wires_length : (ws : List Wire) (rest : List Line) → Each WireBound ws → length (lines_text (wires_then ws rest)) ≤ 101 * length ws + length (lines_text rest)
unfolding lines_text wires_then
wires_length [] rest b = omega arith
wires_length (w ∷ ws) rest b =
    let x = wire_length w b.0 in
    let h = wires_length ws rest b.1 in
    simp length-append (omega arith)

tracks_length : (trs : List DrawnTrack) (rest : List Line) → Each TrackBound trs →
    length (lines_text (tracks_then trs rest)) ≤ 20 * length trs + 101 * length (track_numbers trs) + length (lines_text rest)
unfolding lines_text tracks_then track_numbers
tracks_length [] rest b = omega arith
tracks_length (tr ∷ trs) rest b =
    let x = track_length tr.track tr.sum b.0.number b.0.sum in
    let w = wires_length tr.wires (tracks_then trs rest) b.0.wires in
    let h = tracks_length trs rest b.1 in
    let m = length-map tr.wires (λ v. v.number) in
    simp length-append (omega arith)

looses_length : (ns : List ℕ) (rest : List Line) → Each (λ k. k < 10000) ns → length (lines_text (loose_then ns rest)) ≤ 101 * length ns + length (lines_text rest)
unfolding lines_text loose_then
looses_length [] rest b = omega arith
looses_length (n ∷ ns) rest b =
    let x = loose_length n b.0 in
    let h = looses_length ns rest b.1 in
    simp length-append (omega arith)

pub bounded_length : (l : Layout) → Bounded l → length (layout_text l) ≤ 10 + 20 * length l.tracks + 101 * length (line_numbers l)
unfolding layout_text layout_lines lines_text line_text line_numbers
bounded_length l b =
    let x = tracks_length l.tracks (loose_then l.loose (closes ∷ [])) b.tracks in
    let y = looses_length l.loose (closes ∷ []) b.loose in
    simp length-append (omega arith)

-- ---- sound layouts are bounded

distinct_length : (p : Point) (ps : List Point) → length (distinct_from p ps) ≤ length ps
unfolding distinct_from
distinct_length p [] = omega arith
distinct_length p (q ∷ qs) =
    let h = distinct_length q qs in
    by_test (same_point p q) (λ e. rw e (omega arith)) (λ e. rw e (omega arith))

-- the wire of a placement that ends on the board
module _ (board : Board) (b : BoardInRange board) where
  column_bounds : (t : ℕ) → t ≤ board.tracks → (via_column t < 1000) × (wire_column t < 1000) × (width board < 1000)
  unfolding via_column wire_column width
  column_bounds t h = let k = b.tracks_range in omega arith

  row_bounds : (p : Placement) → p.top ≤ bottom p → bottom p ≤ board.rows → (near_row p < 10000) × (far_row p < 10000)
  unfolding near_row far_row
  row_bounds p l h =
      let k = b.rows_range in
      by_test (ltb p.net.left.0 p.net.right.0) (λ e. rw e (omega arith)) (λ e. rw e (omega arith))

  corner_bounds : (t : ℕ) (p : Placement) (s : Shape) → t ≤ board.tracks → NetInRange board p.net → bottom p ≤ board.rows →
      Each PointBound (corners board t p s) × (length (corners board t p s) ≤ 7)
  unfolding corners
  corner_bounds t p Plain h n l =
      let c = column_bounds t h in
      let k = b.rows_range in
      (omega arith, omega arith)
  corner_bounds t p (Stretched e) h n l =
      let c = column_bounds t h in
      let r = row_bounds p (omega arith) l in
      let k = b.rows_range in
      (omega arith, omega arith)

  pub wire_bounds : (t : ℕ) (p : Placement) → t ≤ board.tracks → NetInRange board p.net → bottom p ≤ board.rows → WireBound (wire_of board t p)
  unfolding wire_of points_on
  wire_bounds t p h n l =
      let k = b.rows_range in
      let c = corner_bounds t p p.shape h n l in
      let pin = at 0 p.net.left.0 in
      record {
        number = omega arith;
        count = omega (arith, distinct_length pin (corners board t p p.shape));
        points = (omega arith, distinct_each PointBound pin (corners board t p p.shape) c.0);
      }

module _ (job : Job) (a : AcceptedJob job) where
  track_bounds : (earlier : List ℕ) (t : ℕ) (trs : List DrawnTrack) → SoundTracks job earlier t trs → t + length trs ≤ job.board.tracks + 1 → printed_sum trs < 1000000 → Each TrackBound trs
  unfolding printed_sum
  track_bounds earlier t [] s h b = tt
  track_bounds earlier t (tr ∷ trs) s h b =
      let x = s.0 in
      let k = a.board_range.tracks_range in
      let t_le : t ≤ job.board.tracks = omega arith in
      let bounds : Each WireBound (map (wire_of job.board t) x.places) =
      Each-mapped (wire_of job.board t) WireBound x.places (Each-map x.places (λ p q. wire_bounds job.board a.board_range t p t_le (a.nets_each p.net q.of_job).in_range q.legal.to_last) x.placed) in (
        record { number = omega (arith, x.track_is); sum = omega arith; wires = rw x.drawn bounds },
        track_bounds (earlier ++ wire_numbers tr.wires) (suc t) trs s.1 (omega arith) (omega arith),
      )

  module _ (text : List ℕ) (s : Sound job text) where
    pub sound_bounded : Bounded s.layout
    unfolding line_numbers
    sound_bounded =
        let k = a.nets_count in
        let total = job_weight job a in
        record {
          tracks = track_bounds [] 1 s.layout.tracks s.tracks (omega (arith, s.count)) (omega (arith, balance job a text s));
          loose = Each-each s.layout.loose (λ j i.
              let m = Memᴰ.of_map (λ n. n.number) job.nets (s.no_other j (Memᴰ.append_right (track_numbers s.layout.tracks) i)) in
              omega (arith, m.2, (a.nets_each m.0 m.1).in_range.number_range));
        }

    -- every sound layout has at most 64,000 bytes
    pub sound_length : length text ≤ 64000
    sound_length =
        omega (arith, ap length s.rendered, bounded_length s.layout sound_bounded, lines_count job a text s, a.nets_count, a.board_range.tracks_range, s.count)
