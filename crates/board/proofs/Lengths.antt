-- Document 01, "Boards to try": the lengths, needed rows and tops of one net, from row 10 to row 14 on a board with one track.
-- Assumes nothing.
use Prim.Native.Nat.{ℕ, ◌≤◌}
use mathlib.Core.Path.{◌≡◌, refl, sym, ap, ◌∙◌}
use mathlib.Core.Logic.{◌↔◌}
use native.Mathlib.Omega.{arith}
use Rattle.board.specs.declared.Board.{Board}
use Rattle.board.specs.declared.Net.{Net}
use Rattle.board.specs.declared.Shape.{Shape}
use Rattle.board.specs.declared.Shape.TheVariants.{Stretched}
use Rattle.board.specs.Length.{width, upper, lower, span, plain_length, length_of, Allowed, shortest, needed}
use Rattle.board.specs.Placement.{covered, first_top, last_top, placement_at, shortest_at, Legal}
use Rattle.board.specs.TriedBoards.{tried_board, tried_net, Tried}
use Rattle.board.proofs.ShortestShape.{shortest_least, none_allowed, none_below_plain}
use Rattle.board.proofs.Tops.{legal_in_tops}

tried : {board : Board} {net : Net} {l e n first last : ℕ} → shortest board net ≡ Stretched e →
    length_of board net (shortest board net) ≡ l → (net.min ≤ l) × (l ≤ net.max) → needed board net ≡ n →
    first_top net (shortest board net) ≡ first → last_top board net (shortest board net) ≡ last → Tried board net l e n first last
tried {board} {net} s k b n f t =
    let a : Allowed board net (shortest board net) = omega arith in
    record {
      shape = s;
      length_is = k;
      allowed = a;
      needed_is = n;
      tops = λ top. (
        λ l. let i = (legal_in_tops board (shortest_at board net top)).0 l in omega (arith, i),
        λ h. (legal_in_tops board (shortest_at board net top)).1 (record { allowed = a; from_first = omega arith; to_last = omega arith }),
      );
    }

-- min = max = 23 gives e = 7, n = 12 and eight tops, 3 to 10
pub rows_21 : Tried (tried_board 21) (tried_net 23 23 12) 23 7 12 3 10
unfolding width upper lower span plain_length shortest needed covered first_top last_top
rows_21 = tried refl refl (omega arith) refl refl refl

-- 20 rows give seven
pub rows_20 : Tried (tried_board 20) (tried_net 23 23 12) 23 7 12 3 9
unfolding width upper lower span plain_length shortest needed covered first_top last_top
rows_20 = tried refl refl (omega arith) refl refl refl

-- 14 rows one
pub rows_14 : Tried (tried_board 14) (tried_net 23 23 12) 23 7 12 3 3
unfolding width upper lower span plain_length shortest needed covered first_top last_top
rows_14 = tried refl refl (omega arith) refl refl refl

-- min 22 with max 23 gives 23
pub min_22 : Tried (tried_board 21) (tried_net 22 23 12) 23 7 12 3 10
unfolding width upper lower span plain_length shortest needed covered first_top last_top
min_22 = tried refl refl (omega arith) refl refl refl

-- min 8 with max 9 gives e = 0
pub min_8 : Tried (tried_board 21) (tried_net 8 9 5) 9 0 5 10 10
unfolding width upper lower span plain_length shortest needed covered first_top last_top
min_8 = tried refl refl (omega arith) refl refl refl

-- min 22 with max 22 has no allowed length
pub max_22 : (s : Shape) → Allowed (tried_board 21) (tried_net 22 22 12) s → ⊥
unfolding width upper lower span plain_length shortest
max_22 = (none_allowed (tried_board 21) (tried_net 22 22 12)).0 (omega arith)

-- nor has min 8 with max 8
pub max_8 : (s : Shape) → Allowed (tried_board 21) (tried_net 8 8 5) s → ⊥
unfolding width upper lower span plain_length shortest
max_8 = (none_allowed (tried_board 21) (tried_net 8 8 5)).0 (omega arith)

-- nor has max 6, whatever min, as D = 7
pub max_6 : (least heavy : ℕ) (s : Shape) → Allowed (tried_board 21) (tried_net least 6 heavy) s → ⊥
unfolding width upper lower span plain_length
max_6 least heavy = none_below_plain (tried_board 21) (tried_net least 6 heavy) (omega arith)

-- ---- what is tried of a net, taken out clause by clause: none of them asks less than its words say
module _ {board : Board} {net : Net} {l e n first last : ℕ} (t : Tried board net l e n first last) where
  -- l is an allowed length of the net, and no allowed length is smaller
  pub tried_length : (net.min ≤ l) × (l ≤ net.max) × ((s : Shape) → Allowed board net s → l ≤ length_of board net s)
  tried_length = (
    omega (arith, t.length_is, t.allowed),
    omega (arith, t.length_is, t.allowed),
    λ s a. omega (arith, t.length_is, shortest_least board net s a),
  )

  -- with stretch e the net has length l and covers n rows
  pub tried_stretch : (length_of board net (Stretched e) ≡ l) × (covered net (Stretched e) ≡ n)
  unfolding needed covered
  tried_stretch = (ap (length_of board net) (sym t.shape) ∙ t.length_is, ap (covered net) (sym t.shape) ∙ t.needed_is)

  -- with stretch e the net can have its top at the rows `first` to `last`, and at no other
  pub tried_tops : (top : ℕ) → Legal board (placement_at net (Stretched e) top) ↔ ((first ≤ top) × (top ≤ last))
  tried_tops top = rw t.shape at (t.tops top)
