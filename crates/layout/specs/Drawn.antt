-- Back from points: the one placement of a net that they can draw on a track, where its rows hold the fixed ones; and the net of a number.
use Rattle.std.specs.Prelude.{ℕ, ◌-◌, ◌≤◌, min, max, cond, List, [], ◌∷◌, eqb, Option, None, Some}
use Rattle.lists.specs.Lists.{first_of}
use Rattle.board.specs.declared.Net.{Net}
use Rattle.board.specs.declared.Shape.TheVariants.{Plain, Stretched}
use Rattle.board.specs.Length.{upper, lower, span}
use Rattle.board.specs.Job.{Job}
use Rattle.board.specs.Placement.{Placement, bottom}
use Rattle.layout.specs.Tree.{Point}
use Rattle.layout.specs.Drawing.{wire_column}

-- the rows of p hold the fixed rows of its net
pub record Fixed (p : Placement) : Type 0 where
  pub over_upper : p.top ≤ upper p.net
  pub under_lower : lower p.net ≤ bottom p

-- the row of the first point in column c, if one stands there
unfoldable pub first_in : ℕ → List Point → Option ℕ
first_in c [] = None
first_in c (p ∷ ps) = cond (eqb p.column c) (Some p.row) (first_in c ps)

-- the row of the last point in column c; d if none stands there
unfoldable pub last_in : ℕ → ℕ → List Point → ℕ
last_in c d [] = d
last_in c d (p ∷ ps) = last_in c (cond (eqb p.column c) p.row d) ps

-- the one placement of net n that the points can draw on track t, by the row of the first point in the track's wire column: plain if
-- there is none
unfoldable pub placement_from : Net → List Point → ℕ → Option ℕ → Placement
placement_from n ps t None = record { net = n; shape = Plain; top = upper n }
placement_from n ps t (Some u) =
    let v = last_in (wire_column t) u ps in
    record { net = n; shape = Stretched (max u v - min u v - span n); top = min u v }

-- the one placement of net n that points can draw on track t
unfoldable pub placement_of : ℕ → Net → List Point → Placement
placement_of t n ps = placement_from n ps t (first_in (wire_column t) ps)

-- the net of the job with number k, if there is one
unfoldable pub net_numbered : Job → ℕ → Option Net
net_numbered job k = first_of (λ n. eqb n.number k) job.nets
