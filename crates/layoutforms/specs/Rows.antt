-- The rows of the first and of the last point of a wire in a column, as the code keeps them.
use Rattle.std.specs.Prelude.{◌≡◌, true, cond, List, [], ◌∷◌, ℕ, eqb, Option, Some, option_map, unwrap_or}
use Rattle.layout.specs.declared.Point.{Point}
use Rattle.layout.specs.Tree.{Wire, wire}
use Rattle.layout.specs.ReadBack.{read_line}
use Rattle.layout.specs.Drawn.{first_in, last_in}
use Rattle.layoutforms.specs.Exact.{points_in, is_points}
use Rattle.layoutforms.specs.declared.rows.ColumnRows.{ColumnRows}

-- the rows of the first and of the last point in column c, if there is one
unfoldable pub rows_in : ℕ → List Point → Option ColumnRows
rows_in c ps = option_map (λ u. record { first = u; last = last_in c u ps }) (first_in c ps)

-- a point in the column is the last so far, and the first where there was none
unfoldable pub with_point : ℕ → Option ColumnRows → Point → Option ColumnRows
with_point c rows p =
    cond (eqb p.column c) (Some (record { first = unwrap_or (option_map (λ r. r.first) rows) p.row; last = p.row })) rows

-- point after point
unfoldable pub with_points : ℕ → Option ColumnRows → List Point → Option ColumnRows
with_points c rows [] = rows
with_points c rows (p ∷ ps) = with_points c (with_point c rows p) ps

-- the rows are those of the points, whenever the text is points
abbrev pub PointRows : List ℕ → ℕ → Option ColumnRows → Type 0
PointRows t c rows = is_points t ≡ true → rows ≡ rows_in c (points_in t)

-- the rows are those of the wire, whenever the line is one of a wire
abbrev pub RowsOf : List ℕ → ℕ → Option ColumnRows → Type 0
RowsOf s c rows = (w : Wire) → read_line s ≡ Some (wire w) → rows ≡ rows_in c w.points
