-- No two neighbouring points of a drawing are equal: document 01, "A point equal to the one before is left out." That only such points are
-- left out is seen by the length, DrawnLength.antt, and by the rows, DrawnOnce.antt. Assumes nothing.
use Prim.Native.Nat.{ℕ}
use mathlib.Core.Path.{◌≡◌, sym, ap, ◌∙◌}
use mathlib.Core.Bool.{true≢false}
use mathlib.Core.List.{List, [], ◌∷◌}
use Rattle.lists.proofs.Cases.{by_test}
use Rattle.board.specs.declared.Board.{Board}
use Rattle.board.specs.Placement.{Placement}
use Rattle.layout.specs.Tree.{Point}
use Rattle.layout.specs.Drawing.{at, same_point, distinct_from, corners, points_on}
use Rattle.layout.proofs.DrawnOnce.{same_point_true, same_point_refl}

-- each point differs from the one before it, where p stands before the first
abbrev pub DifferFrom : Point → List Point → Type 0
DifferFrom p [] = Unit {0}
DifferFrom p (q ∷ qs) = (p ≡ q → ⊥) × DifferFrom q qs

-- no two neighbours are equal
abbrev pub NeighboursDiffer : List Point → Type 0
NeighboursDiffer [] = Unit {0}
NeighboursDiffer (p ∷ ps) = DifferFrom p ps

distinct_differ : (p : Point) (qs : List Point) → DifferFrom p (distinct_from p qs)
unfolding distinct_from
distinct_differ p [] = tt
distinct_differ p (q ∷ qs) =
    by_test (same_point p q)
    (λ e. let h = same_point_true p q e in rw (e, h) (distinct_differ q qs))
    (λ e. rw e (λ h. true≢false (sym (same_point_refl q) ∙ ap (λ (x : Point). same_point x q) (sym h) ∙ e), distinct_differ q qs))

pub drawn_neighbours : (board : Board) (t : ℕ) (p : Placement) → NeighboursDiffer (points_on board t p)
unfolding points_on
drawn_neighbours board t p = distinct_differ (at 0 p.net.left.0) (corners board t p p.shape)
