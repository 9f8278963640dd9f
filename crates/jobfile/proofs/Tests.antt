-- What each test of a line says: it passes exactly where the fact holds that it stands for. Assumes nothing.
use Rattle.std.specs.Prelude.{Option, None, Some}
use Prim.Native.Nat.{ℕ, ◌≤◌, ◌<◌}
use mathlib.Core.Path.{◌≡◌, refl, sym, ◌∙◌}
use mathlib.Core.Logic.{◌↔◌}
use mathlib.Core.Bool.{Bool, true, false, not, cond, ◌&&◌, true≢false}
use mathlib.Core.List.{List, [], ◌∷◌, ◌++◌}
use native.Mathlib.Omega.{arith}
use lib.Dec.{eqb, leb}
use lib.ListN.{length}
use borrow.Author.Tests.{leb-true, leb-false, le-leb, eqb-false, ne_eqb, not-true}
use Rattle.lists.proofs.Cases.{by_test, and_split, and_both}
use Rattle.board.specs.declared.Board.{Board}
use Rattle.board.specs.declared.Net.{Net}
use Rattle.board.specs.declared.Block.{Block}
use Rattle.board.specs.declared.Shape.{Shape}
use Rattle.board.specs.Length.{Allowed, length_of, shortest}
use Rattle.board.specs.Accepted.{NetInRange, BlockInRange}
use Rattle.board.proofs.ShortestShape.{shortest_long, shortest_least}
use Rattle.text.specs.Bytes.{lines}
use Rattle.jobfile.specs.declared.Refusal.TheVariants.{TooLong}
use Rattle.jobfile.specs.Read.{start, within, weight_in_range, net_in_range, block_in_range, pins_free, last_number, Read, refused, read_from, read_job}
use Rattle.jobfile.specs.Faults.{WeightInRange}

-- a test that fails denies what it stands for
pub denied : {P : Type 0} (b : Bool) → ((b ≡ true) ↔ P) → b ≡ false → P → ⊥
denied b t e p = true≢false (sym (t.1 p) ∙ e)

pub leb_is : (a b : ℕ) → (leb a b ≡ true) ↔ (a ≤ b)
leb_is a b = (leb-true a b, le-leb a b)

-- two tests of two facts
pub and_is : {P Q : Type 0} (a b : Bool) → ((a ≡ true) ↔ P) → ((b ≡ true) ↔ Q) → ((a && b) ≡ true) ↔ (P × Q)
and_is a b p q =
    (λ h. let s = and_split a b h in (p.0 s.0, q.0 s.1), λ r. and_both a b (p.1 r.0) (q.1 r.1))

pub within_is : (lo hi x : ℕ) → (within lo hi x ≡ true) ↔ ((lo ≤ x) × (x ≤ hi))
unfolding within
within_is lo hi x = and_is (leb lo x) (leb x hi) (leb_is lo x) (leb_is x hi)

pub differ_is : (a b : ℕ) → (not (eqb a b) ≡ true) ↔ (a ≡ b → ⊥)
differ_is a b = (λ h. eqb-false a b (not-true (eqb a b) h), λ d. rw (ne_eqb a b d))

-- refusal 1: length first
by_length : (P : Read → Type 0) (a b : ℕ) (x y : Read) → (a ≤ b → P x) → (b < a → P y) → P (cond (leb a b) x y)
by_length P a b x y f g = by_test (leb a b) (λ e. rw e (f (leb-true a b e))) (λ e. rw e (g (leb-false a b e)))

pub read_cases : (text : List ℕ) (P : Read → Type 0) → (length text ≤ 64000 → P (read_from 1 start (lines text))) →
    (64000 < length text → P (refused TooLong)) → P (read_job text)
unfolding read_job
read_cases text P f g = by_length P (length text) 64000 (read_from 1 start (lines text)) (refused TooLong) f g

-- refusal 3
pub weight_range_is : (w : Option ℕ) → (weight_in_range w ≡ true) ↔ WeightInRange w
unfolding weight_in_range
weight_range_is None = (λ h. tt, λ u. refl)
weight_range_is (Some w) = within_is 1 999 w

pub net_range_is : (board : Board) (n : Net) (w : Option ℕ) → (net_in_range board n w ≡ true) ↔ (NetInRange board n × WeightInRange w)
unfolding net_in_range
net_range_is board n w =
    let t =
    and_is _ _ (and_is _ _ (and_is _ _ (and_is _ _ (and_is _ _
    (within_is 1 9999 n.number)
    (within_is 1 board.rows n.left.0))
    (within_is 1 board.rows n.right.0))
    (leb_is n.min 4095))
    (leb_is n.max 4095))
    (weight_range_is w)
    in (
      λ h. let r = t.0 h in (
        record {
          number_range = r.0.0.0.0.0;
          left_range = r.0.0.0.0.1;
          right_range = r.0.0.0.1;
          bounds_range = (r.0.0.1, r.0.1);
        },
        r.1,
      ),
      λ r. let b = r.0 in
          t.1 (((((b.number_range, b.left_range), b.right_range), b.bounds_range.0), b.bounds_range.1), r.1),
    )

pub block_range_is : (board : Board) (b : Block) → (block_in_range board b ≡ true) ↔ BlockInRange board b
unfolding block_in_range
block_range_is board b =
    let t =
    and_is _ _ (and_is _ _ (and_is _ _
    (within_is 1 board.tracks b.track.0)
    (within_is 1 board.rows b.first.0))
    (within_is 1 board.rows b.last.0))
    (leb_is b.first.0 b.last.0)
    in (
      λ h. let r = t.0 h in
          record { track_range = r.0.0.0; first_range = r.0.0.1.0; in_order = r.1; last_range = r.0.1.1 },
      λ r. t.1 (((r.track_range, (r.first_range, omega arith)), (omega arith, r.last_range)), r.in_order),
    )

-- refusal 5: the number of the last net
pub last_number_lem : (k : ℕ) (ms : List Net) (m : Net) → last_number k (ms ++ (m ∷ [])) ≡ m.number
unfolding last_number
last_number_lem k [] m = refl
last_number_lem k (x ∷ ms) m = last_number_lem x.number ms m

-- the last net of a list that has one
pub record LastNet (k : ℕ) (ns : List Net) : Type 0 where
  pub before : List Net
  pub last : Net
  pub is_last : ns ≡ before ++ (last ∷ [])
  pub has_number : last_number k ns ≡ last.number

pub last_net : (k : ℕ) (n : Net) (ns : List Net) → LastNet k (n ∷ ns)
unfolding last_number
last_net k n [] = record { before = []; last = n; is_last = refl; has_number = refl }
last_net k n (m ∷ ns) =
    let r = last_net n.number m ns in
    record { before = n ∷ r.before; last = r.last; is_last = rw r.is_last; has_number = r.has_number }

-- refusal 6
pub free_is : (n m : Net) → (pins_free n m ≡ true) ↔ ((m.left.0 ≡ n.left.0 → ⊥) × (m.right.0 ≡ n.right.0 → ⊥))
unfolding pins_free
free_is n m =
    and_is (not (eqb m.left.0 n.left.0)) (not (eqb m.right.0 n.right.0))
    (differ_is m.left.0 n.left.0) (differ_is m.right.0 n.right.0)

-- refusal 8: some length is allowed
pub length_is : (board : Board) (n : Net) →
    (leb (length_of board n (shortest board n)) n.max ≡ true) ↔ ((s : Shape) × Allowed board n s)
length_is board n = (
  λ h. (shortest board n, record { long = shortest_long board n; short = leb-true _ _ h }),
  λ r. let l = shortest_least board n r.0 r.1 in
      le-leb (length_of board n (shortest board n)) n.max (omega (arith, r.1.short)),
)
