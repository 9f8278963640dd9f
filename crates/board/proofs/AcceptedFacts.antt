-- For each clause of `AcceptedJob` and of what it is made of, a board, net, block or job that it turns away, and the largest and smallest
-- values that it lets through. Assumes nothing.
use Prim.Native.Nat.{ℕ, ◌≤◌}
use mathlib.Core.Path.{◌≡◌, refl}
use mathlib.Core.Logic.{◌⊎◌, inl, inr, ⊎_elim}
use mathlib.Core.List.Memᴰ
use mathlib.Core.List.{List, [], ◌∷◌}
use native.Mathlib.Omega.{arith}
use lib.ListN.{replicate}
use Rattle.board.specs.declared.Board.{Board}
use Rattle.board.specs.declared.Net.{Net}
use Rattle.board.specs.declared.Block.{Block}
use Rattle.board.specs.declared.Shape.TheVariants.{Plain, Stretched}
use Rattle.board.specs.Length.{width, upper, lower, span, plain_length, shortest, needed}
use Rattle.board.specs.Job.{Job}
use Rattle.board.specs.Accepted.{BoardInRange, NetInRange, BlockInRange, AcceptedNet, AcceptedJob}
use Rattle.board.specs.WorkedBoard.{worked_board, worked_block, net1, net1_weighing, net2}
use Rattle.board.proofs.ShortestShape.{none_allowed}

-- a board of h rows and k tracks
abbrev sized : ℕ → ℕ → Board
sized h k = record { rows = h; tracks = k }

-- a net by its number, L, R, min and max, of weight 10
abbrev net_with : ℕ → ℕ → ℕ → ℕ → ℕ → Net
net_with i l r lo hi = record { number = i; left = record { 0 = l }; right = record { 0 = r }; min = lo; max = hi; weight = 10 }

-- a block by its track, A and B
abbrev block_with : ℕ → ℕ → ℕ → Block
block_with t a b = record { track = record { 0 = t }; first = record { 0 = a }; last = record { 0 = b } }

-- a job on the worked board
abbrev job_with : List Net → List Block → Job
job_with ns bs = record { board = worked_board; nets = ns; blocks = bs }

-- ---- the board: H from 1 to 1,024, K from 1 to 128

pub board_ends : BoardInRange (sized 1 1) × BoardInRange (sized 1024 128)
board_ends = (
  record { rows_range = (omega arith, omega arith); tracks_range = (omega arith, omega arith) },
  record { rows_range = (omega arith, omega arith); tracks_range = (omega arith, omega arith) },
)

pub no_row : BoardInRange (sized 0 1) → ⊥
no_row b = omega (arith, b.rows_range)

pub row_1025 : BoardInRange (sized 1025 1) → ⊥
row_1025 b = omega (arith, b.rows_range)

pub no_track : BoardInRange (sized 1 0) → ⊥
no_track b = omega (arith, b.tracks_range)

pub track_129 : BoardInRange (sized 1 129) → ⊥
track_129 b = omega (arith, b.tracks_range)

-- ---- a net: number from 1 to 9,999, L and R from 1 to H, min and max to 4,095

pub net_ends : NetInRange worked_board (net_with 1 1 10 0 0) × NetInRange worked_board (net_with 9999 10 1 4095 4095)
net_ends = (
  record {
    number_range = (omega arith, omega arith);
    left_range = (omega arith, omega arith);
    right_range = (omega arith, omega arith);
    bounds_range = (omega arith, omega arith);
  },
  record {
    number_range = (omega arith, omega arith);
    left_range = (omega arith, omega arith);
    right_range = (omega arith, omega arith);
    bounds_range = (omega arith, omega arith);
  },
)

pub number_0 : NetInRange worked_board (net_with 0 2 4 7 7) → ⊥
number_0 n = omega (arith, n.number_range)

pub number_10000 : NetInRange worked_board (net_with 10000 2 4 7 7) → ⊥
number_10000 n = omega (arith, n.number_range)

pub left_0 : NetInRange worked_board (net_with 1 0 4 7 7) → ⊥
left_0 n = omega (arith, n.left_range)

pub left_11 : NetInRange worked_board (net_with 1 11 4 7 7) → ⊥
left_11 n = omega (arith, n.left_range)

pub right_0 : NetInRange worked_board (net_with 1 2 0 7 7) → ⊥
right_0 n = omega (arith, n.right_range)

pub right_11 : NetInRange worked_board (net_with 1 2 11 7 7) → ⊥
right_11 n = omega (arith, n.right_range)

pub min_4096 : NetInRange worked_board (net_with 1 2 4 4096 7) → ⊥
min_4096 n = omega (arith, n.bounds_range)

pub max_4096 : NetInRange worked_board (net_with 1 2 4 7 4096) → ⊥
max_4096 n = omega (arith, n.bounds_range)

-- ---- a block: track from 1 to K, 1 ≤ A ≤ B ≤ H

pub block_ends : BlockInRange worked_board (block_with 1 1 1) × BlockInRange worked_board (block_with 2 1 10)
block_ends = (
  record { track_range = (omega arith, omega arith); first_range = omega arith; in_order = omega arith; last_range = omega arith },
  record { track_range = (omega arith, omega arith); first_range = omega arith; in_order = omega arith; last_range = omega arith },
)

pub block_track_0 : BlockInRange worked_board (block_with 0 1 1) → ⊥
block_track_0 b = omega (arith, b.track_range)

pub block_track_3 : BlockInRange worked_board (block_with 3 1 1) → ⊥
block_track_3 b = omega (arith, b.track_range)

pub block_row_0 : BlockInRange worked_board (block_with 1 0 1) → ⊥
block_row_0 b = omega (arith, b.first_range)

pub block_upside_down : BlockInRange worked_board (block_with 1 3 2) → ⊥
block_upside_down b = omega (arith, b.in_order)

pub block_row_11 : BlockInRange worked_board (block_with 1 1 11) → ⊥
block_row_11 b = omega (arith, b.last_range)

-- ---- refusals 7, 8 and 9 of a net

pub same_row : AcceptedNet worked_board (net_with 1 2 2 5 5) → ⊥
same_row n = n.ends_differ refl

-- D is 7, and the next length is 9
pub no_length : AcceptedNet worked_board (net_with 1 2 4 8 8) → ⊥
unfolding shortest plain_length width span upper lower
no_length n = (none_allowed worked_board (net_with 1 2 4 8 8)).0 (omega arith) n.some_shape n.some_length

-- min 23 asks for a stretch of 7, so for 10 rows; min 25 for 11
pub ten_rows : AcceptedNet worked_board (net_with 1 2 4 23 23)
unfolding needed shortest plain_length width span upper lower
ten_rows = record {
  in_range = record {
    number_range = (omega arith, omega arith);
    left_range = (omega arith, omega arith);
    right_range = (omega arith, omega arith);
    bounds_range = (omega arith, omega arith);
  };
  ends_differ = λ (e : ◌≡◌ {A = ℕ} 2 4). omega arith;
  some_shape = Stretched 7;
  some_length = record { long = omega arith; short = omega arith };
  fits_board = omega arith;
  weight_is = inl (omega arith);
}

pub eleven_rows : AcceptedNet worked_board (net_with 1 2 4 25 25) → ⊥
unfolding needed shortest plain_length width span upper lower
eleven_rows n = omega (arith, n.fits_board)

-- ---- the weight of a net: its needed rows, or from 1 to 999

weighed : (w : ℕ) → (w ≡ 3) ⊎ ((1 ≤ w) × (w ≤ 999)) → AcceptedNet worked_board (net1_weighing w)
unfolding needed shortest plain_length width span upper lower
weighed w h = record {
  in_range = record {
    number_range = (omega arith, omega arith);
    left_range = (omega arith, omega arith);
    right_range = (omega arith, omega arith);
    bounds_range = (omega arith, omega arith);
  };
  ends_differ = λ (e : ◌≡◌ {A = ℕ} 2 4). omega arith;
  some_shape = Plain;
  some_length = record { long = omega arith; short = omega arith };
  fits_board = omega arith;
  weight_is = h;
}

pub weights_in_range : AcceptedNet worked_board (net1_weighing 1) × AcceptedNet worked_board (net1_weighing 3) × AcceptedNet worked_board (net1_weighing 999)
weights_in_range = (weighed 1 (inr (omega arith, omega arith)), weighed 3 (inl refl), weighed 999 (inr (omega arith, omega arith)))

weighed_so : (w : ℕ) → AcceptedNet worked_board (net1_weighing w) → (w ≡ 3) ⊎ ((1 ≤ w) × (w ≤ 999))
unfolding needed shortest plain_length width span upper lower
weighed_so w n = n.weight_is

pub weight_0 : AcceptedNet worked_board (net1_weighing 0) → ⊥
weight_0 n = ⊎_elim (λ (e : ◌≡◌ {A = ℕ} 0 3). omega arith) (λ (h : (1 ≤ 0) × (0 ≤ 999)). omega arith) (weighed_so 0 n)

pub weight_1000 : AcceptedNet worked_board (net1_weighing 1000) → ⊥
weight_1000 n = ⊎_elim (λ (e : ◌≡◌ {A = ℕ} 1000 3). omega arith) (λ (h : (1 ≤ 1000) × (1000 ≤ 999)). omega arith) (weighed_so 1000 n)

-- ---- refusals 3 to 6 of a job

pub board_out_of_range : AcceptedJob (record { board = sized 1025 1; nets = []; blocks = [] }) → ⊥
board_out_of_range a = row_1025 a.board_range

pub net_513 : AcceptedJob (job_with (replicate 513 net1) []) → ⊥
net_513 a = omega (arith, a.nets_count)

pub block_257 : AcceptedJob (job_with [] (replicate 257 worked_block)) → ⊥
block_257 a = omega (arith, a.blocks_count)

-- the last net and the last block count as the first do
pub net_turned_away : AcceptedJob (job_with (net1 ∷ net_with 2 3 3 5 5 ∷ []) []) → ⊥
net_turned_away a = (a.nets_each (net_with 2 3 3 5 5) (Memᴰ.tail (Memᴰ.head refl))).ends_differ refl

pub block_turned_away : AcceptedJob (job_with [] (worked_block ∷ block_with 1 3 2 ∷ [])) → ⊥
block_turned_away a = block_upside_down (a.blocks_each (block_with 1 3 2) (Memᴰ.tail (Memᴰ.head refl)))

-- 5: an equal number, and a smaller one
pub number_twice : AcceptedJob (job_with (net1 ∷ net_with 1 6 8 11 12 ∷ []) []) → ⊥
number_twice a = omega (arith, a.numbers_rise.0.0)

pub number_falls : AcceptedJob (job_with (net2 ∷ net1 ∷ []) []) → ⊥
number_falls a = omega (arith, a.numbers_rise.0.0)

-- 6: the left row of net 1 again, also where a net stands between; and its right row
pub left_twice : AcceptedJob (job_with (net1 ∷ net2 ∷ net_with 3 2 3 6 6 ∷ []) []) → ⊥
left_twice a = a.lefts_differ.0.1.0 refl

pub right_twice : AcceptedJob (job_with (net1 ∷ net2 ∷ net_with 3 3 4 6 6 ∷ []) []) → ⊥
right_twice a = a.rights_differ.0.1.0 refl
