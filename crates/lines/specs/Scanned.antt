-- What a scan of a text with a test finds.
use Rattle.std.specs.Prelude.{Bool, true, false, List, ℕ, ◌≤◌, ◌<◌, length, get_or}

-- `tests b r` says that the test may answer r of the byte b. A scan from a place on found r: the test answered false of each byte before r
-- and true of the byte at r, or r is the length
pub record Scanned (tests : ℕ → Bool → Type 0) (s : List ℕ) (from r : ℕ) : Type 0 where
  pub ahead : from ≤ r
  pub within : r ≤ length s
  pub passed : (k : ℕ) → from ≤ k → k < r → tests (get_or s k 0) false
  pub stopped : r < length s → tests (get_or s r 0) true
