-- The laws of points that a text begins with: what was read stands there, what stands there is read, and point after point goes through
-- all of them. Assumes nothing.
use mathlib.Core.Path.{◌≡◌, refl, sym, ap, ◌∙◌}
use mathlib.Core.Bool.{true, ◌&&◌}
use mathlib.Core.List.{List, [], ◌∷◌, ◌++◌}
use Prim.Native.Nat.{ℕ, ◌<◌}
use native.Mathlib.Omega.{arith}
use lib.ListN.{length, length-append}
use borrow.Author.Tests.{eq-eqb, lt-ltb, ltb-true}
use Rattle.std.specs.Prelude.{None, Some}
use Rattle.std.proofs.lemmas.Option.{none-some, same_Some, option_and_then_some}
use Rattle.lists.proofs.Cases.{by_test, and_split}
use Rattle.text.specs.Bytes.{same}
use Rattle.text.specs.Digits.{digits}
use Rattle.text.proofs.Bytes.{same_refl, same_true, same_false}
use Rattle.text.proofs.Numbers.{value_digits}
use Rattle.layout.specs.declared.Point.{Point}
use Rattle.layout.specs.LayoutText.{points_then}
use Rattle.layout.specs.ReadBack.{points_of, is_small, small_points}
use Rattle.layout.proofs.RoundTrip.{words_point, points_read}
use Rattle.layoutforms.specs.Exact.{shut_text, behind, spaced_number, opened_number, point_in, points_in, is_points}
use Rattle.layoutforms.proofs.NumbersRead.{behind_read, spaced_read, opened_read, spaced_there, opened_there}

-- ---- one point

-- a point with numbers of at most six digits stands first, and then the rest
pub record PointRead (t : List ℕ) (r : Point × List ℕ) : Type 0 where
  pub text : t ≡ 32 ∷ 40 ∷ (digits r.0.column ++ 32 ∷ (digits r.0.row ++ 41 ∷ r.1))
  pub small_column : r.0.column < 1000000
  pub small_row : r.0.row < 1000000

pub point_read : (t : List ℕ) (r : Point × List ℕ) → point_in t ≡ Some r → PointRead t r
unfolding point_in
point_read t r e =
    option_and_then_some _ (opened_number t) r e
    (λ column f g.
    option_and_then_some _ (spaced_number column.1) r g
    (λ row h k.
    option_and_then_some _ (behind 41 row.1) r k
    (λ rest i j.
    let c = opened_read t column f in
    let m = spaced_read column.1 row h in
    let here : PointRead t (record { column = column.0; row = row.0 }, rest) =
    record {
      text = c.text ∙ ap (λ (l : List ℕ). 32 ∷ 40 ∷ (digits column.0 ++ l)) (m.text ∙ ap (λ (l : List ℕ). 32 ∷ (digits row.0 ++ l)) (behind_read 41 row.1 rest i));
      small_column = c.small;
      small_row = m.small;
    } in
    rw (← same_Some _ r j) here)))

pub point_shorter : (t : List ℕ) (r : Point × List ℕ) → PointRead t r → length r.1 < length t
point_shorter t r h =
    let e = ap length h.text in
    let d = digits r.0.column in
    let w = digits r.0.row in
    omega (arith, length-append d (32 ∷ (w ++ 41 ∷ r.1)), length-append w (41 ∷ r.1))

-- and back: a point that stands there is read
pub point_there : (p : Point) (t : List ℕ) → p.column < 1000000 → p.row < 1000000 →
    point_in (32 ∷ 40 ∷ (digits p.column ++ 32 ∷ (digits p.row ++ 41 ∷ t))) ≡ Some (p, t)
unfolding point_in behind
point_there p t h k = rw (opened_there p.column 32 (digits p.row ++ 41 ∷ t) refl h, spaced_there p.row 41 t refl k)

-- ---- all the points

-- a point, and those that follow
pub points_more : (p : Point) (t : List ℕ) → points_in (32 ∷ 40 ∷ (digits p.column ++ 32 ∷ (digits p.row ++ 41 ∷ t))) ≡ p ∷ points_in t
unfolding points_in points_of
points_more p t = rw (words_point p t, value_digits p.column, value_digits p.row)

same_prefix : (w a b : List ℕ) → same (w ++ a) (w ++ b) ≡ same a b
unfolding same
same_prefix [] a b = refl
same_prefix (x ∷ w) a b = rw (eq-eqb x x refl) (same_prefix w a b)

same_point : (d e u t : List ℕ) → same (32 ∷ 40 ∷ (d ++ 32 ∷ (e ++ 41 ∷ u))) (32 ∷ 40 ∷ (d ++ 32 ∷ (e ++ 41 ∷ t))) ≡ same u t
unfolding same
same_point d e u t = same_prefix d (32 ∷ (e ++ 41 ∷ u)) (32 ∷ (e ++ 41 ∷ t)) ∙ same_prefix e (41 ∷ u) (41 ∷ t)

pub still_points : (t : List ℕ) (r : Point × List ℕ) → PointRead t r → is_points t ≡ is_points r.1
unfolding is_points points_then small_points
still_points t r h =
    rw (h.text, points_more r.0 r.1, same_point, lt-ltb r.0.column 1000000 h.small_column, lt-ltb r.0.row 1000000 h.small_row)

-- a text that is points is what is written for them
pub record PointsRead (t : List ℕ) : Type 0 where
  pub points : List Point
  pub text : t ≡ points_then points shut_text
  pub small : small_points points ≡ true

pub are_points : (t : List ℕ) → is_points t ≡ true → PointsRead t
unfolding is_points
are_points t e =
    let h = and_split (same (points_then (points_in t) shut_text) t) (small_points (points_in t)) e in
    record { points = points_in t; text = sym (same_true (points_then (points_in t) shut_text) t h.0); small = h.1 }

pub points_are : (ps : List Point) → small_points ps ≡ true → is_points (points_then ps shut_text) ≡ true
unfolding is_points points_in
points_are ps h = rw (points_read ps, same_refl (points_then ps shut_text), h)

-- no point stands there though the text is points: there is none
no_point : (ps : List Point) (t : List ℕ) → point_in t ≡ None → t ≡ points_then ps shut_text → small_points ps ≡ true → t ≡ shut_text
unfolding points_then small_points
no_point [] t a e h = e
no_point (p ∷ ps) t a e h =
    let k = and_split (is_small p.column && is_small p.row) (small_points ps) h in
    let m = and_split (is_small p.column) (is_small p.row) k.0 in
    let r = point_there p (points_then ps shut_text) (ltb-true p.column 1000000 m.0) (ltb-true p.row 1000000 m.1) in
    absurd (none-some (p, points_then ps shut_text) (sym a ∙ ap point_in e ∙ r))

pub points_end : (t : List ℕ) → point_in t ≡ None → is_points t ≡ true → t ≡ shut_text
points_end t a e = let r = are_points t e in no_point r.points t a r.text r.small

pub points_stop : (t : List ℕ) → point_in t ≡ None → is_points t ≡ same t shut_text
unfolding small_points points_then
points_stop t a =
    by_test (same t shut_text)
    (λ q. ap is_points (same_true t shut_text q) ∙ points_are [] refl ∙ sym q)
    (λ q.
    by_test (is_points t)
    (λ r. absurd (same_false t shut_text q (points_end t a r)))
    (λ r. r ∙ sym q))
