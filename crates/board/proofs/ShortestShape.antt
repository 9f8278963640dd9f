-- The shortest shape of a net: its length is the least allowed one, it covers the fewest rows, and where it is too long no shape is
-- allowed. The needed rows of a net are the rows that it covers. Assumes nothing.
use Prim.Native.Nat.{ℕ, ◌+◌, ◌*◌, ◌≤◌, ◌<◌}
use mathlib.Core.Path.{◌≡◌, refl, ap}
use mathlib.Core.Logic.{◌↔◌, ◌⊎◌, inl, inr}
use native.Mathlib.Omega.{arith}
use lib.Dec.{leb}
use borrow.Author.Tests.{leb-true, leb-false}
use Rattle.lists.proofs.Cases.{by_test}
use Rattle.board.specs.declared.Board.{Board}
use Rattle.board.specs.declared.Net.{Net}
use Rattle.board.specs.declared.Shape.{Shape}
use Rattle.board.specs.declared.Shape.TheVariants.{Plain, Stretched}
use Rattle.board.specs.Length.{width, upper, lower, span, plain_length, extra, length_of, Allowed, shortest, needed}
use Rattle.board.specs.Placement.{covered}
use Rattle.board.specs.Shrunk.{Shorter}
use Rattle.board.specs.Accepted.{BoardInRange, NetInRange}

-- a + |L − R| = b
pub span_add : (n : Net) → upper n + span n ≡ lower n
unfolding upper lower span
span_add n = omega arith

-- the shortest shape by cases: plain if D ≥ min, otherwise stretched by the one e for which D + 2e, the next shorter length, is below
-- min and D + 2e + 2 is not
pub shortest_cases : (board : Board) (n : Net) (P : Shape → Type 0) →
    (n.min ≤ plain_length board n → P Plain) →
    ((e : ℕ) → plain_length board n + 2 * e < n.min → n.min ≤ plain_length board n + 2 * e + 2 → P (Stretched e)) →
    P (shortest board n)
unfolding shortest
shortest_cases board n P f g =
    by_test (leb n.min (plain_length board n))
    (λ t. rw t (f (leb-true _ _ t)))
    (λ t. let h : plain_length board n < n.min = leb-false _ _ t in rw t (g _ (omega arith) (omega arith)))

-- it is never below min
pub shortest_long : (board : Board) (n : Net) → n.min ≤ length_of board n (shortest board n)
shortest_long board n =
    shortest_cases board n (λ s. n.min ≤ length_of board n s) (λ h. omega arith) (λ k h l. omega arith)

-- where a shape is allowed, the shortest is, and covers no more rows
pub shortest_shorter : (board : Board) (n : Net) (s : Shape) → Allowed board n s → Shorter board n s (shortest board n)
shortest_shorter board n Plain a = shortest_cases board n (Shorter board n Plain) (λ h. omega arith) (λ k h l. omega arith)
shortest_shorter board n (Stretched e) a =
    shortest_cases board n (Shorter board n (Stretched e)) (λ h. omega arith) (λ k h l. omega arith)

-- no possible length from min on is smaller than that of the shortest shape
pub shortest_below : (board : Board) (n : Net) (s : Shape) → n.min ≤ length_of board n s →
    length_of board n (shortest board n) ≤ length_of board n s
shortest_below board n Plain a =
    shortest_cases board n (λ o. length_of board n o ≤ length_of board n Plain) (λ h. omega arith) (λ k h l. omega arith)
shortest_below board n (Stretched e) a =
    shortest_cases board n (λ o. length_of board n o ≤ length_of board n (Stretched e)) (λ h. omega arith) (λ k h l. omega arith)

-- so no allowed length is
pub shortest_least : (board : Board) (n : Net) (s : Shape) → Allowed board n s →
    length_of board n (shortest board n) ≤ length_of board n s
shortest_least board n s a = shortest_below board n s a.long

-- refusal 8: no length is allowed exactly where that of the shortest shape is above max
pub none_allowed : (board : Board) (n : Net) →
    (n.max < length_of board n (shortest board n)) ↔ ((s : Shape) → Allowed board n s → ⊥)
none_allowed board n = (
  λ h s a. let l = shortest_least board n s a in omega (arith, a.short),
  λ none. by_test (leb (length_of board n (shortest board n)) n.max)
      (λ e. absurd (none (shortest board n) (record { long = shortest_long board n; short = leb-true _ _ e })))
      (λ e. leb-false _ _ e),
)

-- as where D is above max
pub none_below_plain : (board : Board) (n : Net) → n.max < plain_length board n → (s : Shape) → Allowed board n s → ⊥
none_below_plain board n h Plain a = omega arith
none_below_plain board n h (Stretched e) a = omega arith

-- the possible lengths of document 01: D, and D + 2e + 2 for e = 0, 1, 2 and so on
pub length_pinned : (board : Board) (n : Net) (l : ℕ) →
    ((s : Shape) × (length_of board n s ≡ l)) ↔ ((l ≡ plain_length board n) ⊎ ((e : ℕ) × (l ≡ plain_length board n + 2 * e + 2)))
length_pinned board n l = (to, from)
  where
    to : ((s : Shape) × (length_of board n s ≡ l)) → (l ≡ plain_length board n) ⊎ ((e : ℕ) × (l ≡ plain_length board n + 2 * e + 2))
    to (Plain, h) = inl (omega arith)
    to (Stretched e, h) = inr (e, omega arith)

    from : (l ≡ plain_length board n) ⊎ ((e : ℕ) × (l ≡ plain_length board n + 2 * e + 2)) → (s : Shape) × (length_of board n s ≡ l)
    from (inl h) = (Plain, omega arith)
    from (inr (e, h)) = (Stretched e, omega arith)

-- no two shapes have the same length
pub length_injective : (board : Board) (n : Net) (s o : Shape) → length_of board n s ≡ length_of board n o → s ≡ o
length_injective board n Plain Plain h = refl
length_injective board n Plain (Stretched e) h = absurd (omega arith)
length_injective board n (Stretched e) Plain h = absurd (omega arith)
length_injective board n (Stretched e) (Stretched k) h = ap Stretched (omega arith)

-- D = 2K + 1 + |L − R|
pub plain_is : (board : Board) (n : Net) → plain_length board n ≡ 2 * board.tracks + 1 + span n
unfolding plain_length width
plain_is board n = refl

-- n is the number of rows that the shortest shape covers
pub needed_covered : (board : Board) (n : Net) → needed board n ≡ covered n (shortest board n)
unfolding needed covered
needed_covered board n = refl

pub needed_pos : (board : Board) (n : Net) → 1 ≤ needed board n
unfolding needed
needed_pos board n = omega arith

-- a net that passes refusal 3: 1 ≤ a ≤ b ≤ H
pub record FixedRows (board : Board) (n : Net) : Type 0 where
  pub upper_one : 1 ≤ upper n
  pub in_order : upper n ≤ lower n
  pub lower_last : lower n ≤ board.rows
  pub span_below : span n < board.rows

pub fixed_rows : (board : Board) (n : Net) → NetInRange board n → FixedRows board n
unfolding upper lower span
fixed_rows board n r = record { upper_one = omega arith; in_order = omega arith; lower_last = omega arith; span_below = omega arith }

-- D of such a net on a board that passes it
pub plain_range : (board : Board) (n : Net) → BoardInRange board → NetInRange board n →
    (3 ≤ plain_length board n) × (plain_length board n ≤ 1280)
plain_range board n b r =
    let f = fixed_rows board n r in
    let e = plain_is board n in
    omega arith

-- e
pub stretch_range : (board : Board) (n : Net) → BoardInRange board → NetInRange board n → extra (shortest board n) ≤ 2045
stretch_range board n b r =
    let p = plain_range board n b r in
    shortest_cases board n (λ s. extra s ≤ 2045) (λ h. omega arith) (λ k h l. omega arith)
