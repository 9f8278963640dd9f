-- Document 01, "Board and grid": a job, and the rows that its blocks close.
use Rattle.std.specs.Prelude.{ℕ, Bool, ◌&&◌, List, leb, eqb}
use Rattle.lists.specs.Lists.{any_of}
use Rattle.board.specs.declared.Board.{Board}
use Rattle.board.specs.declared.Net.{Net}
use Rattle.board.specs.declared.Block.{Block}

-- a job: its board, its nets and its blocks, in the order of their lines
pub record Job : Type 0 where
  pub board : Board
  pub nets : List Net
  pub blocks : List Block

-- the block closes the row of track t on layer 2
unfoldable pub closes_row : Block → ℕ → ℕ → Bool
closes_row b t row = eqb b.track.0 t && leb b.first.0 row && leb row b.last.0

-- a row of track t that some block closes; blocks may overlap
unfoldable pub blocked : Job → ℕ → ℕ → Bool
blocked job t row = any_of (λ b. closes_row b t row) job.blocks
