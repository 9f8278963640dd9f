-- A drawing has the length of its shape. Assumes nothing.
use Prim.Native.Nat.{ℕ, ◌+◌, ◌*◌, ◌≤◌, ◌<◌}
use mathlib.Core.Path.{◌≡◌, refl, sym, ap, ◌∙◌}
use mathlib.Core.Bool.{true}
use mathlib.Core.List.{List, [], ◌∷◌}
use native.Mathlib.Omega.{arith}
use lib.Dec.{leb, ltb}
use borrow.Author.Tests.{leb-true, leb-false, ltb-true, ltb-false, eqb-true}
use Rattle.lists.proofs.Cases.{by_test, and_split}
use Rattle.board.specs.declared.Net.{Net}
use Rattle.board.specs.declared.Shape.{Shape}
use Rattle.board.specs.declared.Shape.TheVariants.{Plain, Stretched}
use Rattle.board.specs.Length.{width, upper, lower, span, plain_length, extra, length_of}
use Rattle.board.specs.Job.{Job}
use Rattle.board.specs.Placement.{Placement, bottom, Legal}
use Rattle.board.proofs.ShortestShape.{span_add}
use Rattle.layout.specs.Tree.{Point}
use Rattle.layout.specs.Drawing.{via_column, wire_column, at, same_point, distinct_from, near_row, far_row, corners, points_on, between, path_from, path_length}

-- leaving equal neighbours out does not change it
same_true : (p q : Point) → same_point p q ≡ true → (p.column ≡ q.column) × (p.row ≡ q.row)
unfolding same_point
same_true p q h = let s = and_split _ _ h in (eqb-true _ _ s.0, eqb-true _ _ s.1)

moved : (p q : Point) (qs : List Point) → p.column ≡ q.column → p.row ≡ q.row → path_from p qs ≡ path_from q qs
unfolding path_from
moved p q [] a b = refl
moved p q (r ∷ qs) a b = rw (a, b)

near : (a b : ℕ) → a ≡ b → between a b ≡ 0
unfolding between
near a b h = omega arith

step : (p q : Point) (qs : List Point) → same_point p q ≡ true → path_from p (distinct_from q qs) ≡ path_from q (distinct_from q qs)
step p q qs e = let s = same_true p q e in moved p q (distinct_from q qs) s.0 s.1

distinct_length : (p : Point) (qs : List Point) → path_from p (distinct_from p qs) ≡ path_from p qs
unfolding path_from distinct_from
distinct_length p [] = refl
distinct_length p (q ∷ qs) =
    let h = distinct_length q qs in
    by_test (same_point p q)
    (λ e. let s = same_true p q e in
    rw e (step p q qs e ∙ h ∙ (omega (arith, near p.column q.column s.0, near p.row q.row s.1))))
    (λ e. rw e (rw h))

up : (a b : ℕ) → a ≤ b → between a b + a ≡ b
unfolding between
up a b h = omega arith

down : (a b : ℕ) → b ≤ a → between a b + b ≡ a
unfolding between
down a b h = omega arith

self : (a : ℕ) → between a a ≡ 0
unfolding between
self a = omega arith

-- the span of a net whose left pin is above, or below
span_up : (n : Net) → n.left.0 ≤ n.right.0 → (upper n ≡ n.left.0) × (lower n ≡ n.right.0)
unfolding upper lower
span_up n h = (omega arith, omega arith)

span_down : (n : Net) → n.right.0 ≤ n.left.0 → (upper n ≡ n.right.0) × (lower n ≡ n.left.0)
unfolding upper lower
span_down n h = (omega arith, omega arith)

via_in : (job : Job) (t : ℕ) → 1 ≤ t → t ≤ job.board.tracks → (via_column t ≤ width job.board) × (via_column t + 1 ≡ wire_column t)
unfolding via_column wire_column width
via_in job t a b = (omega arith, omega arith)

apart : (n : Net) → between n.left.0 n.right.0 ≡ span n
apart n =
    let e = span_add n in
    by_test (leb n.left.0 n.right.0)
    (λ h. let l : n.left.0 ≤ n.right.0 = leb-true _ _ h in let s = span_up n l in let u = up n.left.0 n.right.0 l in omega arith)
    (λ h. let l : n.right.0 < n.left.0 = leb-false _ _ h in let s = span_down n (omega arith) in let u = down n.left.0 n.right.0 (omega arith) in omega arith)

path_plain : (job : Job) (t : ℕ) (n : Net) (r : ℕ) → 1 ≤ t → t ≤ job.board.tracks → path_from (at 0 n.left.0) (corners job.board t (record { net = n; shape = Plain; top = r }) Plain) ≡ plain_length job.board n
unfolding path_from corners plain_length
path_plain job t n r a b =
    let v = via_in job t a b in
    let c = up 0 (via_column t) (omega arith) in
    let w = up (via_column t) (width job.board) v.0 in
    let d = apart n in
    omega (arith, self n.left.0, self (via_column t), self n.right.0)

path_stretched : (job : Job) (t e : ℕ) (p : Placement) → 1 ≤ t → t ≤ job.board.tracks → p.shape ≡ Stretched e →
    p.top ≤ upper p.net → lower p.net ≤ p.top + span p.net + e →
    path_from (at 0 p.net.left.0) (corners job.board t p (Stretched e)) ≡ plain_length job.board p.net + 2 * e + 2
unfolding path_from corners plain_length near_row far_row
path_stretched job t e p a b q x y =
    let n = p.net in
    let v = via_in job t a b in
    let c = up 0 (via_column t) (omega arith) in
    let w = up (via_column t) (width job.board) v.0 in
    let g = up (via_column t) (wire_column t) (omega (arith, v)) in
    let g' = down (wire_column t) (via_column t) (omega (arith, v)) in
    let z = span_add n in
    let m : bottom p ≡ p.top + span n + e = ap (λ s. p.top + span n + extra s) q in
    by_test (ltb n.left.0 n.right.0)
    (λ h. rw h (
    let l : n.left.0 < n.right.0 = ltb-true _ _ h in
    let s = span_up n (omega arith) in
    omega (
      arith,
      self n.left.0,
      self (via_column t),
      self (wire_column t),
      self n.right.0,
      self p.top,
      self (bottom p),
      down n.left.0 p.top (omega (arith, s)),
      up p.top (bottom p) (omega (arith, m)),
      down (bottom p) n.right.0 (omega (arith, s, m)),
    )))
    (λ h. rw h (
    let l : n.right.0 ≤ n.left.0 = ltb-false _ _ h in
    let s = span_down n l in
    omega (
      arith,
      self n.left.0,
      self (via_column t),
      self (wire_column t),
      self n.right.0,
      self p.top,
      self (bottom p),
      up n.left.0 (bottom p) (omega (arith, s, m)),
      down (bottom p) p.top (omega (arith, m)),
      up p.top n.right.0 (omega (arith, s)),
    )))

-- a drawing has the length of its shape
pub drawn_length_of : (job : Job) (t : ℕ) (p : Placement) → 1 ≤ t → t ≤ job.board.tracks → Legal job.board p → path_length (points_on job.board t p) ≡ length_of job.board p.net p.shape
unfolding path_length points_on
drawn_length_of job t p a b l = go p.shape refl
  where
    go : (s : Shape) → p.shape ≡ s → path_length (points_on job.board t p) ≡ length_of job.board p.net p.shape
    go Plain e =
        distinct_length (at 0 p.net.left.0) (corners job.board t p p.shape) ∙
        ap (λ x. path_from (at 0 p.net.left.0) (corners job.board t (record { net = p.net; shape = x; top = p.top }) x)) e ∙
        path_plain job t p.net p.top a b ∙ ap (length_of job.board p.net) (sym e)
    go (Stretched k) e =
        let y : lower p.net ≤ p.top + span p.net + k = rw e at l.under_lower in
        distinct_length (at 0 p.net.left.0) (corners job.board t p p.shape) ∙
        ap (λ x. path_from (at 0 p.net.left.0) (corners job.board t p x)) e ∙
        path_stretched job t k p a b e l.over_upper y ∙ ap (length_of job.board p.net) (sym e)
