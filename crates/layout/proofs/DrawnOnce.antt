-- A drawn wire determines its placement. Assumes nothing.
use Prim.Native.Nat.{ℕ, ◌+◌, ◌*◌, ◌-◌, ◌≤◌, min, max}
use mathlib.Core.Path.{◌≡◌, refl, sym, ap, ap₂, ◌∙◌}
use mathlib.Core.Bool.{true, false, cond}
use Rattle.std.specs.Prelude.{None, Some}
use mathlib.Core.List.{List, [], ◌∷◌}
use native.Mathlib.Omega.{arith}
use lib.Dec.{eqb, ltb}
use borrow.Author.Tests.{eqb-true, eq-eqb, ne_eqb}
use Rattle.lists.proofs.Cases.{by_test, and_split}
use Rattle.board.specs.declared.Net.{Net}
use Rattle.board.specs.declared.Shape.{Shape}
use Rattle.board.specs.declared.Shape.TheVariants.{Plain, Stretched}
use Rattle.board.specs.Length.{width, upper, span}
use Rattle.board.specs.Job.{Job}
use Rattle.board.specs.Placement.{Placement, placement_at, bottom}
use Rattle.board.proofs.ShortestShape.{span_add}
use Rattle.layout.specs.Tree.{Point, Wire}
use Rattle.layout.specs.Drawing.{via_column, wire_column, at, same_point, distinct_from, near_row, far_row, corners, points_on, wire_of}
use Rattle.layout.specs.Drawn.{Fixed, first_in, last_in, placement_from, placement_of}

-- ---- points that are left out change neither the first nor the last row of a column

pub same_point_true : (p q : Point) → same_point p q ≡ true → p ≡ q
unfolding same_point
same_point_true p q h =
    let s = and_split _ _ h in
    let a = eqb-true p.column q.column s.0 in
    let b = eqb-true p.row q.row s.1 in
    λ i. record { column = a i; row = b i }

pub same_point_refl : (p : Point) → same_point p p ≡ true
unfolding same_point
same_point_refl p = rw (eq-eqb p.column p.column refl, eq-eqb p.row p.row refl)

first_in_twice : (c : ℕ) (p : Point) (ps : List Point) → first_in c (p ∷ p ∷ ps) ≡ first_in c (p ∷ ps)
unfolding first_in
first_in_twice c p ps = by_test (eqb p.column c) (λ e. rw e) (λ e. rw e)

first_in_cons : (c : ℕ) (p : Point) (ps qs : List Point) → first_in c ps ≡ first_in c qs → first_in c (p ∷ ps) ≡ first_in c (p ∷ qs)
unfolding first_in
first_in_cons c p ps qs e = rw e

first_in_distinct : (c : ℕ) (p : Point) (ps : List Point) → first_in c (p ∷ distinct_from p ps) ≡ first_in c (p ∷ ps)
unfolding distinct_from
first_in_distinct c p [] = refl
first_in_distinct c p (q ∷ qs) =
    by_test (same_point p q)
    (λ e. let h = same_point_true p q e in rw (e, h) (first_in_distinct c q qs ∙ sym (first_in_twice c q qs)))
    (λ e. rw e (first_in_cons c p (q ∷ distinct_from q qs) (q ∷ qs) (first_in_distinct c q qs)))

last_in_twice : (c d : ℕ) (p : Point) (ps : List Point) → last_in c d (p ∷ p ∷ ps) ≡ last_in c d (p ∷ ps)
unfolding last_in
last_in_twice c d p ps = by_test (eqb p.column c) (λ e. rw e) (λ e. rw e)

last_in_distinct : (c d : ℕ) (p : Point) (ps : List Point) → last_in c d (p ∷ distinct_from p ps) ≡ last_in c d (p ∷ ps)
unfolding distinct_from last_in
last_in_distinct c d p [] = refl
last_in_distinct c d p (q ∷ qs) =
    by_test (same_point p q)
    (λ e. let h = same_point_true p q e in rw (e, h) (last_in_distinct c d q qs ∙ sym (last_in_twice c d q qs)))
    (λ e. rw e (last_in_distinct c (cond (eqb p.column c) p.row d) q qs))

-- ---- the placement of a drawing

module _ (job : Job) (t : ℕ) (on_track : 1 ≤ t) where
  pin_column : eqb 0 (wire_column t) ≡ false
  unfolding wire_column
  pin_column = ne_eqb 0 (2 * t) (λ (z : 0 ≡ 2 * t). omega arith)

  via_column_lem : eqb (via_column t) (wire_column t) ≡ false
  unfolding wire_column via_column
  via_column_lem = ne_eqb (2 * t - 1) (2 * t) (λ (z : 2 * t - 1 ≡ 2 * t). omega arith)

  last_column : eqb (width job.board) (wire_column t) ≡ false
  unfolding wire_column width
  last_column = ne_eqb (2 * job.board.tracks + 1) (2 * t) (λ (z : 2 * job.board.tracks + 1 ≡ 2 * t). omega arith)

  wire_column_lem : eqb (wire_column t) (wire_column t) ≡ true
  wire_column_lem = eq-eqb (wire_column t) (wire_column t) refl

  plain_first : (n : Net) (r : ℕ) → first_in (wire_column t) (points_on job.board t (placement_at n Plain r)) ≡ None
  unfolding points_on corners first_in
  plain_first n r =
      first_in_distinct (wire_column t) (at 0 n.left.0) (corners job.board t (placement_at n Plain r) Plain) ∙ rw (pin_column, via_column_lem, last_column)

  stretched_first : (n : Net) (e r : ℕ) → first_in (wire_column t) (points_on job.board t (placement_at n (Stretched e) r)) ≡ Some (near_row (placement_at n (Stretched e) r))
  unfolding points_on corners first_in
  stretched_first n e r =
      first_in_distinct (wire_column t) (at 0 n.left.0) (corners job.board t (placement_at n (Stretched e) r) (Stretched e)) ∙
      rw (pin_column, via_column_lem, wire_column_lem)

  stretched_last : (n : Net) (e r d : ℕ) → last_in (wire_column t) d (points_on job.board t (placement_at n (Stretched e) r)) ≡ far_row (placement_at n (Stretched e) r)
  unfolding points_on corners last_in
  stretched_last n e r d =
      last_in_distinct (wire_column t) d (at 0 n.left.0) (corners job.board t (placement_at n (Stretched e) r) (Stretched e)) ∙
      rw (wire_column_lem, via_column_lem, last_column)

  -- the two rows of the stretched part are its top and its bottom
  ends : (p : Placement) → (min (near_row p) (far_row p) ≡ p.top) × (max (near_row p) (far_row p) ≡ bottom p)
  unfolding near_row far_row
  ends p = by_test (ltb p.net.left.0 p.net.right.0) (λ e. rw e (omega arith)) (λ e. rw e (omega arith))

  back : (n : Net) (s : Shape) (r : ℕ) → Fixed (placement_at n s r) → placement_of t n (points_on job.board t (placement_at n s r)) ≡ placement_at n s r
  unfolding placement_of placement_from
  back n Plain r f =
      let e : upper n ≡ r = omega (arith, span_add n) in
      ap (placement_from n (points_on job.board t (placement_at n Plain r)) t) (plain_first n r) ∙ ap (placement_at n Plain) e
  back n (Stretched e) r f =
      let p = placement_at n (Stretched e) r in
      let x = ends p in
      let a : max (near_row p) (far_row p) - min (near_row p) (far_row p) - span n ≡ e = omega arith in
      ap (placement_from n (points_on job.board t p) t) (stretched_first n e r) ∙
      (rw (stretched_last n e r (near_row p)) (λ i. placement_at n (Stretched (a i)) (x.0 i)))

  pub placement_back : (p : Placement) → Fixed p → placement_of t p.net (points_on job.board t p) ≡ p
  placement_back p f = back p.net p.shape p.top f

  -- a drawn wire determines its placement
  pub drawn_once : (p q : Placement) → Fixed p → Fixed q → p.net ≡ q.net → wire_of job.board t p ≡ wire_of job.board t q → p ≡ q
  unfolding wire_of
  drawn_once p q f g n e =
      let same : points_on job.board t p ≡ points_on job.board t q = ap (λ (w : Wire). w.points) e in
      sym (placement_back p f) ∙ ap₂ (placement_of t) n same ∙ placement_back q g
