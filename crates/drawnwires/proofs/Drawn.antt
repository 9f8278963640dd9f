-- The one placement that a wire's points can draw is drawn exactly if it is on the board and the line is its text. Assumes nothing.
use Prim.Native.Nat.{ℕ, ◌+◌, ◌-◌, ◌*◌, ◌≤◌}
use mathlib.Core.Path.{◌≡◌, refl, sym, ap, ◌∙◌}
use mathlib.Core.Bool.{Bool, true, false, cond, ◌&&◌}
use mathlib.Core.List.{List, [], ◌∷◌, ◌++◌, append_assoc}
use Rattle.std.specs.Prelude.{Option, None, Some, option_map}
use native.Mathlib.Omega.{arith}
use lib.ListN.{length, take, drop, length-append}
use lib.Seq.{take-append_seam}
use lib.Dec.{eqb}
use Rattle.std.specs.Str.{bytes_eq}
use Rattle.std.specs.Bool.{then_some}
use borrow.Author.Tests.{leb-true}
use Rattle.lists.proofs.Cases.{by_test, and_split}
use Rattle.text.specs.Bytes.{same}
use Rattle.text.specs.Written.{Written}
use Rattle.text.proofs.Bytes.{same_true, same_false}
use Rattle.board.specs.declared.Board.{Board}
use Rattle.board.specs.declared.BoardNet.{BoardNet}
use Rattle.board.specs.declared.Net.{Net}
use Rattle.board.specs.declared.Track.{Track}
use Rattle.board.specs.declared.Wired.{Wired}
use Rattle.board.specs.Placement.{Placement, bottom, placement_at}
use Rattle.board.specs.Tests.{is_from_one, is_over_upper, is_under_lower, is_to_last}
use Rattle.layout.specs.declared.Point.{Point}
use Rattle.layout.specs.Tree.{Wire, wire}
use Rattle.layout.specs.LayoutText.{line_text}
use Rattle.layout.specs.ReadBack.{read_line, rough_line}
use Rattle.layout.specs.Drawing.{wire_column, points_on, wire_of}
use Rattle.layout.specs.Drawn.{first_in, last_in, placement_from, placement_of}
use Rattle.layout.proofs.RoundTrip.{rough_line_lem, read_line_sound}
use Rattle.sound.proofs.Bounds.{wire_length, wire_bounds}
use Rattle.layoutforms.specs.declared.rows.ColumnRows.{ColumnRows}
use Rattle.layoutforms.specs.Rows.{rows_in, RowsOf}
use Rattle.writer.specs.Lines.{wire_line, Drawable}
use Rattle.drc.specs.Covers.{same_points, is_on_board, drawn_of}
use Rattle.drc.proofs.Drawings.{same_points_true, same_points_refl}
use Rattle.drawnwires.specs.DrawnPlaces.{place_of, only_place, wire_text, OnBoard, DrawnIn}

-- ---- the one placement

-- a placement of a net without it
abbrev pub only_placement : Net → Wired → Placement
only_placement n p = placement_at n p.shape p.top.0

placement_from_rows : (t : Track) (n : Net) (ps : List Point) (o : Option ℕ) →
    only_placement n (only_place n t (option_map (λ u. record { first = u; last = last_in (wire_column t.0) u ps }) o)) ≡ placement_from n ps t.0 o
unfolding only_place placement_from
placement_from_rows t n ps None = refl
placement_from_rows t n ps (Some u) = refl

pub only_one : (t : Track) (n : Net) (ps : List Point) → only_placement n (only_place n t (rows_in (wire_column t.0) ps)) ≡ placement_of t.0 n ps
unfolding rows_in placement_of
only_one t n ps = placement_from_rows t n ps (first_in (wire_column t.0) ps)

-- ---- the line of a wire

-- the texts of two wires with one number are the same exactly if their points are
pub same_drawing : (board : Board) (n : Net) (p : Wired) (s : List ℕ) (w : Wire) → read_line s ≡ Some (wire w) → w.number ≡ n.number →
    same_points (points_on board p.track.0 (only_placement n p)) w.points ≡ same s (wire_text board n p)
unfolding wire_text wire_of
same_drawing board n p s w r e =
    let q = points_on board p.track.0 (only_placement n p) in
    let v : Wire = record { number = n.number; points = q } in
    let l = (read_line_sound s (wire w) r).0 in
    by_test (same s (line_text (wire v)))
    (λ h.
    let x : wire w ≡ wire v = sym (rough_line_lem (wire w)) ∙ ap rough_line (sym l ∙ same_true s (line_text (wire v)) h) ∙ rough_line_lem (wire v) in
    let y : w ≡ v = cc in
    ap (λ (z : Wire). same_points q z.points) y ∙ same_points_refl q ∙ sym h)
    (λ h.
    by_test (same_points q w.points)
    (λ g.
    let y : w ≡ v = λ i. record { number = e i; points = sym (same_points_true q w.points g) i } in
    absurd (same_false s (line_text (wire v)) h (l ∙ ap (λ (z : Wire). line_text (wire z)) y)))
    (λ g. g ∙ sym h))

-- a wire that ends on the board can be drawn, and its line is short
module _ {n : BoardNet} {p : Wired} (o : OnBoard n p) where
  pub drawable_on : Drawable n.board p.track n.net p.shape p.top
  drawable_on =
      let k = n.board_in_range.rows_range in
      let l = n.board_in_range.tracks_range in
      let m = o.track_range in
      record { board_range = n.board_in_range; net_range = n.net_in_range; track_range = omega arith; stretch_range = omega (arith, o.to_last); top_range = omega (arith, o.to_last) }

  pub line_fits : length (wire_line n.board p.track n.net p.shape p.top) ≤ 128
  line_fits =
      let x = line_text (wire (wire_of n.board p.track.0 (only_placement n.net p))) in
      let h = wire_length (wire_of n.board p.track.0 (only_placement n.net p)) (wire_bounds n.board n.board_in_range p.track.0 (only_placement n.net p) o.track_range.1 n.net_in_range o.to_last) in
      omega (arith, length-append x (10 ∷ []))

-- what a writer of the line leaves, up to its byte 10
module _ (board : Board) (n : Net) (p : Wired) (before after : List ℕ) (k : ℕ) (w : Written (wire_line board p.track n p.shape p.top) before after k) where
  pub line_used : k ≡ length (wire_text board n p) + 1
  unfolding wire_text
  line_used = w.used ∙ length-append (wire_text board n p) (10 ∷ [])

  pub line_bytes : take (k - 1) after ≡ wire_text board n p
  unfolding wire_text
  line_bytes =
      let x = wire_text board n p in
      let e : k - 1 ≡ length x = omega (arith, line_used) in
      rw (e, w.bytes, append_assoc x (10 ∷ []) (drop (length (wire_line board p.track n p.shape p.top)) before)) (take-append_seam x ((10 ∷ []) ++ drop (length (wire_line board p.track n p.shape p.top)) before))

-- the same bytes, as the comparison of slices tells
pub same_is : (s t : List ℕ) → bytes_eq s t ≡ same s t
unfolding same
same_is [] [] = refl
same_is [] (b ∷ t) = refl
same_is (a ∷ s) [] = refl
same_is (a ∷ s) (b ∷ t) = ap (λ (x : Bool). eqb a b && x) (same_is s t)

-- ---- the answers

pub on_board_last : (board : Board) (p : Placement) → is_on_board board p ≡ true → bottom p ≤ board.rows
unfolding is_on_board is_to_last
on_board_last board p e = leb-true (bottom p) board.rows (and_split (is_from_one p && is_over_upper p && is_under_lower p) (is_to_last board p) e).1

-- the place is on the track
pub only_track : (n : Net) (t : Track) (rows : Option ColumnRows) → (only_place n t rows).track ≡ t
unfolding only_place
only_track n t None = refl
only_track n t (Some rows) = refl

-- one placement on both sides of a test
kept : (b : Bool) (n : Net) (p : Wired) → then_some b p ≡ place_of p.track (cond b (Some (only_placement n p)) None)
unfolding place_of
kept true n p = refl
kept false n p = refl

-- the rows of the wire column leave one placement: it is drawn, or none is
pub answer : (board : Board) (n : Net) (t : Track) (s : List ℕ) (rows : Option ColumnRows) (p : Wired) (b : Bool) → RowsOf s (2 * t.0) rows → p ≡ only_place n t rows →
    b ≡ (is_on_board board (only_placement n p) && same s (wire_text board n p)) → DrawnIn s board n t (then_some b p)
unfolding drawn_of wire_column
answer board n t s rows p b of_wire only tested w r e =
    let on : p.track ≡ t = ap (λ (x : Wired). x.track) only ∙ only_track n t rows in
    let one : placement_of t.0 n w.points ≡ only_placement n p =
    sym (ap (only_placement n) only ∙ ap (λ (x : Option ColumnRows). only_placement n (only_place n t x)) (of_wire w r) ∙ only_one t n w.points) in
    rw (one, ← on, same_drawing board n p s w r e, tested) (kept (is_on_board board (only_placement n p) && same s (wire_text board n p)) n p)
