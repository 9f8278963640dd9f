-- Document 01, "Operations", read: what holds of a job that no refusal 3 to 9 turns away. proofs/AcceptedFacts.antt has
-- what each clause turns away.
use Rattle.std.specs.Prelude.{◌≤◌, ◌<◌, ◌≡◌, ◌⊎◌, length}
use mathlib.Core.List.{Memᴰ}
use Rattle.lists.specs.Lists.{EachPair}
use Rattle.board.specs.declared.Board.{Board}
use Rattle.board.specs.declared.Net.{Net}
use Rattle.board.specs.declared.Block.{Block}
use Rattle.board.specs.declared.Shape.{Shape}
use Rattle.board.specs.Length.{Allowed, needed}
use Rattle.board.specs.Job.{Job}

-- H is at most 1,024 and K at most 128, both from 1
pub record BoardInRange (board : Board) : Type 0 where
  pub rows_range : (1 ≤ board.rows) × (board.rows ≤ 1024)
  pub tracks_range : (1 ≤ board.tracks) × (board.tracks ≤ 128)

-- refusal 3 of a net: its number from 1 to 9,999, L and R from 1 to H, min and max from 0 to 4,095
pub record NetInRange (board : Board) (n : Net) : Type 0 where
  pub number_range : (1 ≤ n.number) × (n.number ≤ 9999)
  pub left_range : (1 ≤ n.left.0) × (n.left.0 ≤ board.rows)
  pub right_range : (1 ≤ n.right.0) × (n.right.0 ≤ board.rows)
  pub bounds_range : (n.min ≤ 4095) × (n.max ≤ 4095)

-- refusal 3 of a block: its track from 1 to K, 1 ≤ A ≤ B ≤ H
pub record BlockInRange (board : Board) (b : Block) : Type 0 where
  pub track_range : (1 ≤ b.track.0) × (b.track.0 ≤ board.tracks)
  pub first_range : 1 ≤ b.first.0
  pub in_order : b.first.0 ≤ b.last.0
  pub last_range : b.last.0 ≤ board.rows

-- refusals 3, 7, 8 and 9 of one net: in range, L ≠ R, some length is allowed, n at most H; its weight is its needed rows, where its line
-- leaves the weight out, or one from 1 to 999
pub record AcceptedNet (board : Board) (n : Net) : Type 0 where
  pub in_range : NetInRange board n
  pub ends_differ : n.left.0 ≡ n.right.0 → ⊥
  pub some_shape : Shape
  pub some_length : Allowed board n some_shape
  pub fits_board : needed board n ≤ board.rows
  pub weight_is : (n.weight ≡ needed board n) ⊎ ((1 ≤ n.weight) × (n.weight ≤ 999))

-- a job that no refusal 3 to 9 turns away: its board, nets and blocks as above; 4, at most 512 nets and 256 blocks; 5, numbers rise;
-- 6, no left row and no right row is used twice
pub record AcceptedJob (job : Job) : Type 0 where
  pub board_range : BoardInRange job.board
  pub nets_count : length job.nets ≤ 512
  pub blocks_count : length job.blocks ≤ 256
  pub nets_each : (n : Net) → Memᴰ n job.nets → AcceptedNet job.board n
  pub blocks_each : (b : Block) → Memᴰ b job.blocks → BlockInRange job.board b
  pub numbers_rise : EachPair (λ m n. m.number < n.number) job.nets
  pub lefts_differ : EachPair (λ m n. m.left.0 ≡ n.left.0 → ⊥) job.nets
  pub rights_differ : EachPair (λ m n. m.right.0 ≡ n.right.0 → ⊥) job.nets
