-- Document 01, "Board and grid": "Blocked rows are kept one bit a row, 64 rows to a word."
use Rattle.std.specs.Prelude.{ℕ, zero, suc, ◌/◌, ◌%◌, ◌^◌, ◌≡◌, Bool, false, List, get_or, eqb}
use Rattle.board.specs.Job.{Job, blocked}

-- the bit of a row is set: one bit a row, 64 rows to a word; row i + 1 has bit i % 64 of word i / 64. There is no row 0
unfoldable pub is_set : List ℕ → ℕ → Bool
is_set words zero = false
is_set words (suc i) = eqb (get_or words (i / 64) 0 / 2 ^ (i % 64) % 2) 1

-- the words are the block map of track t: the bits of exactly the blocked rows are set
abbrev pub MapOf : Job → ℕ → List ℕ → Type 0
MapOf job t words = (row : ℕ) → is_set words row ≡ blocked job t row
