-- Document 01, "Choosing a track": only shortest placements of eligible nets are used, clear of blocks.
use Rattle.std.specs.Prelude.{ℕ, Bool, ◌&&◌, List, leb}
use Rattle.board.specs.declared.Net.{Net}
use Rattle.board.specs.Length.{shortest, needed}
use Rattle.board.specs.Job.{Job}
use Rattle.board.specs.Tests.{is_eligible, clear_rows}
use Rattle.board.specs.Placement.{first_top, last_top}

-- net n is eligible, and its shortest placement with its top at row j is on the board and clear of blocks
unfoldable pub fits_at : Job → List ℕ → ℕ → Net → ℕ → Bool
fits_at job earlier t n j =
    is_eligible job earlier n && leb (first_top n (shortest job.board n)) j && leb j (last_top job.board n (shortest job.board n)) &&
    clear_rows job t j (needed job.board n)
