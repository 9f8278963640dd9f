-- The texts of points in parts, as the writers write them, and their lengths; the points of a placement by its shape. Assumes nothing.
use Prim.Native.Nat.{ℕ, ◌+◌, ◌*◌, ◌-◌, ◌≤◌, ◌<◌}
use mathlib.Core.Path.{◌≡◌, refl, sym, ap, ◌∙◌}
use mathlib.Core.Bool.{Bool, true, false, cond, not, ◌&&◌}
use mathlib.Core.List.{List, [], ◌∷◌, ◌++◌, append_assoc}
use native.Mathlib.Omega.{arith}
use native.Mathlib.Numerals.{add-one}
use lib.ListN.{length, get_or, drop, length-append, take-append-drop, drop_of_length-le}
use lib.Seq.{drop-cons}
use lib.Dec.{eqb, ltb}
use borrow.Author.Tests.{not-true, not-false}
use Rattle.std.specs.Ordering.{nat_cmp, is_lt}
use Rattle.lists.proofs.Cases.{by_test}
use Rattle.text.specs.Written.{WrittenAt}
use Rattle.text.specs.Digits.{digits}
use Rattle.board.specs.declared.BoardNet.{BoardNet}
use Rattle.board.specs.declared.Shape.TheVariants.{Plain, Stretched}
use Rattle.board.specs.declared.Wired.{Wired}
use Rattle.board.specs.Length.{width, span, extra}
use Rattle.board.proofs.ShortestShape.{fixed_rows}
use Rattle.layout.specs.declared.Point.{Point}
use Rattle.layout.specs.Drawing.{at, same_point, via_column, wire_column, near_row, far_row, corners}
use Rattle.wirepoints.specs.Points.{point_text, next_text, path_text, pin_text, plain_path, stretched_path, points_text, Drawable}

pub point_parts : (p : Point) → point_text p ≡ (((32 ∷ 40 ∷ []) ++ digits p.column) ++ (32 ∷ digits p.row)) ++ (41 ∷ [])
unfolding point_text
point_parts p = simp append_assoc

pub point_length : (p : Point) → length (point_text p) ≡ 4 + length (digits p.column) + length (digits p.row)
unfolding point_text
point_length p = simp length-append (omega arith)

-- a point behind an equal one is left out, and nothing is written
pub next_same : (p q : Point) (at : ℕ) (s : List ℕ) → same_point p q ≡ true → WrittenAt at (next_text p q) s s at
unfolding next_text
next_same p q at s e = rw e (record { next = omega arith; bytes = sym (take-append-drop at s) })

pub next_other : (p q : Point) → same_point p q ≡ false → next_text p q ≡ point_text q
unfolding next_text
next_other p q e = rw e

-- what the test of two points says, and the point behind written or left out
pub differ : (p q : Point) {b : Bool} → b ≡ not (eqb p.column q.column && eqb p.row q.row) → b ≡ true → next_text p q ≡ point_text q
unfolding same_point
differ p q e f = next_other p q (not-true _ (sym e ∙ f))

pub left_out : (p q : Point) {b : Bool} (at : ℕ) (s : List ℕ) → b ≡ not (eqb p.column q.column && eqb p.row q.row) → b ≡ false → WrittenAt at (next_text p q) s s at
unfolding same_point
left_out p q at s e f = next_same p q at s (not-false _ (sym e ∙ f))

-- the points from place i on begin with the one there
pub path_step : (p : Point) (ps : List Point) (i : ℕ) (d : Point) → i < length ps → path_text p (drop i ps) ≡ next_text p (get_or ps i d) ++ path_text (get_or ps i d) (drop (i + 1) ps)
unfolding path_text
path_step p ps i d h = ap (path_text p) (drop-cons ps i d h) ∙ ap (λ k. next_text p (get_or ps i d) ++ path_text (get_or ps i d) (drop k ps)) (sym (add-one i))

-- behind the last there is none
pub path_last : (p : Point) (ps : List Point) (i : ℕ) → length ps ≤ i → path_text p (drop i ps) ≡ []
unfolding path_text
path_last p ps i h = rw (drop_of_length-le ps {i = i} h)

-- the points of a wire are the pin and those behind it
pub pin_parts : (l : ℕ) (ps : List Point) → pin_text l ps ≡ point_text (at 0 l) ++ path_text (at 0 l) ps
unfolding pin_text
pin_parts l ps = refl

-- ---- the points of a placement by its shape, where the code holds the width w and the rows m between the pins

pub plain_points : (n : BoardNet) (p : Wired) (w : ℕ) → p.shape ≡ Plain → w ≡ width n.board →
    points_text n.board p.track n.net p.shape p.top ≡ pin_text n.net.left.0 (plain_path (2 * p.track.0 - 1) w n.net.left.0 n.net.right.0)
unfolding corners via_column
plain_points n p w s e = rw (s, e)

module _ (n : BoardNet) (p : Wired) (w m e : ℕ) (s : p.shape ≡ Stretched e) (d : Drawable n.board p.track n.net p.shape p.top)
    (width_is : w ≡ width n.board) (span_is : m ≡ span n.net) where
  -- the rows of the stretched part: from the top down with L < R, else from the bottom up
  pub stretched_points : (b : Bool) → ltb n.net.left.0 n.net.right.0 ≡ b → points_text n.board p.track n.net p.shape p.top ≡
      pin_text n.net.left.0 (stretched_path (2 * p.track.0 - 1) w n.net.left.0 n.net.right.0 (cond b p.top.0 (p.top.0 + m + e)) (cond b (p.top.0 + m + e) p.top.0))
  unfolding corners via_column wire_column near_row far_row
  stretched_points b l =
      let c : 2 * p.track.0 - 1 + 1 ≡ 2 * p.track.0 = omega (arith, d.track_range.0) in
      rw (s, width_is, span_is, l, c)

  -- the bottom row is a small number
  pub bottom_small : p.top.0 + m + e ≤ 6144
  bottom_small =
      let x : extra p.shape ≡ e = ap extra s in
      omega (arith, span_is, fixed_rows n.board n.net d.net_range, d.board_range, d.stretch_range, d.top_range)

-- which pin is above, as the order of rows tells it
below_is : (l r : ℕ) → is_lt (nat_cmp l r) ≡ ltb l r
below_is l r = by_test (ltb l r) (λ e. rw e) (λ e. by_test (eqb l r) (λ f. rw (e, f)) (λ f. rw (e, f)))

pub above : (l r : ℕ) {a b : Bool} → a ≡ is_lt (nat_cmp l r) → a ≡ b → ltb l r ≡ b
above l r e f = sym (below_is l r) ∙ sym e ∙ f

-- a text is written under another name
pub written_at_as : {x y s t : List ℕ} {at r : ℕ} → x ≡ y → WrittenAt at x s t r → WrittenAt at y s t r
written_at_as e w = rw e at w
