-- Document 01, "Choosing a track": best(j), from row H up. proofs/ByRow.antt shows that it is the largest sum.
use Rattle.std.specs.Prelude.{ℕ, zero, suc, ◌+◌, ◌-◌, max, cond, List, [], ◌∷◌, get_or}
use Rattle.board.specs.declared.Board.{Board}
use Rattle.board.specs.declared.Net.{Net}
use Rattle.board.specs.Length.{needed}
use Rattle.board.specs.Weight.{weight}
use Rattle.board.specs.Job.{Job}
use Rattle.packing.specs.Fits.{fits_at}

-- the sum with net n's top at row j: its weight (order 2), and best below the rows that it needs; `below` is best(j + 1), best(j + 2), .. to
-- best(H + 1)
unfoldable pub sum_with : Board → List ℕ → Net → ℕ
sum_with board below n = weight n + get_or below (needed board n - 1) 0

module _ (job : Job) (earlier : List ℕ) (t : ℕ) where
  -- best(j), from `below` as above: the largest of best(j + 1) and the sums with the top of one of these nets at row j, where it fits there
  unfoldable pub best_at : ℕ → List ℕ → List Net → ℕ
  best_at j below [] = get_or below 0 0
  best_at j below (n ∷ ns) =
      let rest = best_at j below ns in cond (fits_at job earlier t n j) (max (sum_with job.board below n) rest) rest

  -- best of the last k rows: best(H + 1 − k), .. to best(H + 1), which is 0
  unfoldable pub table : ℕ → List ℕ
  table zero = 0 ∷ []
  table (suc k) = let below = table k in best_at (job.board.rows - k) below job.nets ∷ below

  -- best(H + 1 − k)
  unfoldable pub best_last : ℕ → ℕ
  best_last k = get_or (table k) 0 0

  -- best(j)
  unfoldable pub best : ℕ → ℕ
  best j = best_last (job.board.rows + 1 - j)
