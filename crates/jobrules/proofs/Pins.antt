-- The pins that the nets above use, one bit a row: no net, one net more, and refusal 6. Assumes nothing.
use Prim.Native.Nat.{ℕ}
use mathlib.Core.Path.{◌≡◌, refl, sym, ap, ◌∙◌}
use mathlib.Core.Bool.{Bool, true, false, not, ◌&&◌, ◌||◌}
use mathlib.Core.List.{List, [], ◌∷◌, ◌++◌}
use lib.Dec.{eqb}
use borrow.Author.Tests.{eqb-true, eqb-false, eq-eqb, ne_eqb}
use Rattle.lists.specs.Lists.{any_of, all_of}
use Rattle.lists.proofs.Cases.{by_test}
use Rattle.lists.proofs.Joins.{any_of_more}
use Rattle.board.specs.declared.Net.{Net}
use Rattle.board.specs.declared.Board.{Board}
use Rattle.board.specs.Accepted.{BoardInRange, NetInRange}
use Rattle.blockmap.specs.Bits.{is_set}
use Rattle.jobfile.specs.Read.{pins_free}
use Rattle.jobrules.specs.Rules.{RowsInRange, PinsOf}
use Rattle.jobrules.specs.declared.UsedPins.{UsedPins}
use native.Mathlib.Omega.{arith}

-- the rows of a net that is in range on a board in range
pub rows_in_range : (size : Board) (n : Net) → BoardInRange size → NetInRange size n → RowsInRange n
rows_in_range size n b r =
    record {
      left_range = (r.left_range.0, omega (arith, r.left_range.1, b.rows_range.1));
      right_range = (r.right_range.0, omega (arith, r.right_range.1, b.rows_range.1));
    }

-- no net uses a pin
pub pins_none : (used : UsedPins) → ((k : ℕ) → is_set used.left.words k ≡ false) → ((k : ℕ) → is_set used.right.words k ≡ false) → PinsOf [] used
unfolding any_of
pins_none used l r = record { left_is = l; right_is = r }

-- one net more
pub pins_more : (nets : List Net) (n : Net) (used more : UsedPins) →
    ((k : ℕ) → is_set more.left.words k ≡ (eqb k n.left.0 || is_set used.left.words k)) →
    ((k : ℕ) → is_set more.right.words k ≡ (eqb k n.right.0 || is_set used.right.words k)) →
    PinsOf nets used → PinsOf (nets ++ (n ∷ [])) more
pins_more nets n used more l r p =
    record {
      left_is = λ k. l k ∙ ap (λ (b : Bool). eqb k n.left.0 || b) (p.left_is k) ∙ sym (any_of_more (λ m. eqb k m.left.0) nets n);
      right_is = λ k. r k ∙ ap (λ (b : Bool). eqb k n.right.0 || b) (p.right_is k) ∙ sym (any_of_more (λ m. eqb k m.right.0) nets n);
    }

-- refusal 6: no net above has either row
same_swap : (i k : ℕ) → eqb i k ≡ eqb k i
same_swap i k = by_test (eqb k i) (λ e. eq-eqb i k (sym (eqb-true k i e)) ∙ sym e) (λ e. ne_eqb i k (λ h. eqb-false k i e (sym h)) ∙ sym e)

both_none : (a b c d : Bool) → ((not a && not b) && (not c && not d)) ≡ (not (a || c) && not (b || d))
both_none true b c d = refl
both_none false true true d = refl
both_none false true false d = refl
both_none false false true d = refl
both_none false false false d = refl

none_used : (n : Net) (nets : List Net) →
    all_of (pins_free n) nets ≡ (not (any_of (λ m. eqb n.left.0 m.left.0) nets) && not (any_of (λ m. eqb n.right.0 m.right.0) nets))
unfolding all_of any_of pins_free
none_used n [] = refl
none_used n (m ∷ nets) =
    ap (λ (b : Bool). pins_free n m && b) (none_used n nets)
    ∙ (rw (same_swap m.left.0 n.left.0, same_swap m.right.0 n.right.0)
    (both_none (eqb n.left.0 m.left.0) (eqb n.right.0 m.right.0) (any_of (λ m. eqb n.left.0 m.left.0) nets) (any_of (λ m. eqb n.right.0 m.right.0) nets)))

module _ (nets : List Net) (n : Net) (used : UsedPins) (p : PinsOf nets used) where
  pins_free_lem : all_of (pins_free n) nets ≡ (not (is_set used.left.words n.left.0) && not (is_set used.right.words n.right.0))
  pins_free_lem = none_used n nets ∙ (rw (p.left_is n.left.0, p.right_is n.right.0))

  pub left_used : is_set used.left.words n.left.0 ≡ true → false ≡ all_of (pins_free n) nets
  left_used e = sym (pins_free_lem ∙ (rw e))

  pub right_decides : is_set used.left.words n.left.0 ≡ false → not (is_set used.right.words n.right.0) ≡ all_of (pins_free n) nets
  right_decides e = sym (pins_free_lem ∙ (rw e))
