-- Document 01, "Choosing a track": the walk from row 1, and the wires that it takes.
use Rattle.std.specs.Prelude.{ℕ, zero, suc, ◌+◌, ◌-◌, Bool, cond, ◌&&◌, List, [], ◌∷◌, eqb, Option, None, Some}
use Rattle.lists.specs.Lists.{first_of}
use Rattle.board.specs.declared.Net.{Net}
use Rattle.board.specs.Length.{needed}
use Rattle.board.specs.Job.{Job}
use Rattle.board.specs.Placement.{Placement, shortest_at}
use Rattle.packing.specs.Fits.{fits_at}
use Rattle.packing.specs.Best.{sum_with, table, best_last}

module _ (job : Job) (earlier : List ℕ) (t : ℕ) where
  -- with its top at row H − k the net reaches best(H − k)
  unfoldable pub reaches : ℕ → Net → Bool
  reaches k n =
      fits_at job earlier t n (job.board.rows - k) && eqb (sum_with job.board (table job earlier t k) n) (best_last job earlier t (suc k))

  -- the choice for row H − k: none where best is that of the next row; otherwise the net of lowest number that reaches best (a job
  -- lists its nets by rising number)
  unfoldable pub choice : ℕ → Option Net
  choice k = cond (eqb (best_last job earlier t (suc k)) (best_last job earlier t k)) None (first_of (reaches k) job.nets)

  -- the wires of the last k rows, of which the first `skip` are covered already
  unfoldable pub walk : ℕ → ℕ → List Placement
  walk zero skip = []
  walk (suc k) (suc skip) = walk k skip
  walk (suc k) zero =
      elim (choice k) [
        | None ↦ walk k 0
        | Some n ↦ shortest_at job.board n (job.board.rows - k) ∷ walk k (needed job.board n - 1)
      ]

  -- the choice for row j
  unfoldable pub choice_at : ℕ → Option Net
  choice_at j = choice (job.board.rows - j)

  -- the wires that the walk takes from row j on
  unfoldable pub walk_from : ℕ → List Placement
  walk_from j = walk (job.board.rows + 1 - j) 0

  -- the wires of the track: the walk from row 1
  unfoldable pub wires_of : List Placement
  wires_of = walk_from 1
