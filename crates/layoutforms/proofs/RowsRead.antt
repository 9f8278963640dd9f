-- The rows that a walk over the points of a wire keeps are those of its first and of its last point in the column. Assumes nothing.
use mathlib.Core.Path.{◌≡◌, refl, sym, ap, ◌∙◌}
use mathlib.Core.List.{List, [], ◌∷◌}
use Rattle.std.specs.Prelude.{Option, None, Some}
use Prim.Native.Nat.{ℕ, ◌<◌}
use native.Mathlib.Omega.{arith}
use lib.ListN.{length, drop}
use borrow.Author.Tests.{ltb-true}
use Rattle.std.proofs.lemmas.Option.{none-some, same_Some}
use Rattle.std.proofs.lemmas.Slice.{between_to_end}
use Rattle.std.specs.List.{slice_range}
use lib.Dec.{eqb}
use Rattle.lists.proofs.Cases.{by_test, and_split}
use Rattle.layout.specs.declared.Point.{Point}
use Rattle.layout.specs.Tree.{Wire, wire}
use Rattle.layout.specs.LayoutText.{points_then, line_text}
use Rattle.layout.specs.ReadBack.{read_line, is_small, small_points, small_line}
use Rattle.layout.specs.Drawn.{first_in, last_in}
use Rattle.layout.proofs.RoundTrip.{points_read, read_line_sound}
use Rattle.layoutforms.specs.declared.rows.ColumnRows.{ColumnRows}
use Rattle.layoutforms.specs.Exact.{shut_text, number_in, point_in, points_in, is_points}
use Rattle.layoutforms.specs.Rows.{rows_in, with_point, with_points, PointRows, RowsOf}
use Rattle.layoutforms.proofs.NumbersRead.{number_there}
use Rattle.layoutforms.proofs.PointsRead.{PointRead, points_more, still_points, points_are, points_end}
use Rattle.layoutforms.proofs.ExactForms.{first_byte}

-- ---- point after point

rows_found : (c u v : ℕ) (ps : List Point) → with_points c (Some (record { first = u; last = v })) ps ≡ Some (record { first = u; last = last_in c v ps })
unfolding with_points with_point last_in
rows_found c u v [] = refl
rows_found c u v (p ∷ ps) =
    by_test (eqb p.column c) (λ e. rw (e, rows_found c u p.row ps)) (λ e. rw (e, rows_found c u v ps))

rows_all : (c : ℕ) (ps : List Point) → with_points c None ps ≡ rows_in c ps
unfolding with_points with_point rows_in first_in last_in
rows_all c [] = refl
rows_all c (p ∷ ps) =
    by_test (eqb p.column c) (λ e. rw (e, rows_found c p.row p.row ps)) (λ e. rw (e, rows_all c ps))

-- no points
no_points : points_in shut_text ≡ []
unfolding points_in points_then
no_points = points_read []

-- ---- a walk over the points

-- after some points of the text t: those of the text s, which is left, decide
pub record RowsSoFar (t : List ℕ) (c : ℕ) (rows : Option ColumnRows) (s : List ℕ) : Type 0 where
  pub decided : is_points t ≡ is_points s
  pub left : with_points c None (points_in t) ≡ with_points c rows (points_in s)

pub rows_none : (t : List ℕ) (c : ℕ) → RowsSoFar t c None t
rows_none t c = record { decided = refl; left = refl }

pub rows_more : {t : List ℕ} {c : ℕ} {rows : Option ColumnRows} {s : List ℕ} (r : Point × List ℕ) → RowsSoFar t c rows s → PointRead s r → RowsSoFar t c (with_point c rows r.0) r.1
unfolding with_points
rows_more {t} {c} {rows} {s} r n h =
    record { decided = n.decided ∙ still_points s r h; left = n.left ∙ (rw (h.text, points_more r.0 r.1)) }

pub rows_stop : {t : List ℕ} {c : ℕ} {rows : Option ColumnRows} {s : List ℕ} → RowsSoFar t c rows s → point_in s ≡ None → PointRows t c rows
unfolding with_points
rows_stop {t} {c} {rows} {s} n e h =
    let d = points_end s e (sym n.decided ∙ h) in
    let z : points_in s ≡ [] = ap points_in d ∙ no_points in
    sym (sym (rows_all c (points_in t)) ∙ n.left ∙ ap (with_points c rows) z)

-- ---- the points of the line of a wire

-- the number of a wire stands at byte 7, and its points behind it
wire_number : (s : List ℕ) (w : Wire) → read_line s ≡ Some (wire w) → number_in (drop 7 s) ≡ Some (w.number, points_then w.points shut_text)
unfolding line_text small_line
wire_number s w r =
    let l = read_line_sound s (wire w) r in
    let k = and_split (is_small w.number) (small_points w.points) l.1 in
    let f = first_byte w.points in
    rw (l.0, f.2) (number_there w.number f.0 f.1 f.3 (ltb-true w.number 1000000 k.0))

-- so what is read there are the rows of the points
pub wire_rows : (s : List ℕ) (c : ℕ) (t : List ℕ) (r : ℕ × List ℕ) (rows : Option ColumnRows) →
    t ≡ slice_range s 7 (length s) → Some r ≡ number_in t → PointRows r.1 c rows → RowsOf s c rows
unfolding small_line points_in
wire_rows s c t r rows d e h w l =
    let k = and_split (is_small w.number) (small_points w.points) (read_line_sound s (wire w) l).1 in
    let q = same_Some r _ (e ∙ ap number_in (d ∙ between_to_end s 7 (length s) (omega arith)) ∙ wire_number s w l) in
    let z : r.1 ≡ points_then w.points shut_text = ap (λ (x : ℕ × List ℕ). x.1) q in
    h (ap is_points z ∙ points_are w.points k.1) ∙ ap (rows_in c) (ap points_in z ∙ points_read w.points)

-- and a line that has no number there is none of a wire
pub no_number : (s : List ℕ) (c : ℕ) (t : List ℕ) (rows : Option ColumnRows) → t ≡ slice_range s 7 (length s) → None ≡ number_in t → RowsOf s c rows
no_number s c t rows d e w l =
    absurd (none-some (w.number, points_then w.points shut_text) (e ∙ ap number_in (d ∙ between_to_end s 7 (length s) (omega arith)) ∙ wire_number s w l))

pub short_rows : (s : List ℕ) (c : ℕ) (rows : Option ColumnRows) → length s < 7 → RowsOf s c rows
unfolding line_text
short_rows s c rows h w r =
    let l : length s ≡ length (line_text (wire w)) = ap length (read_line_sound s (wire w) r).0 in
    absurd (omega arith)
