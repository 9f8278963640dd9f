-- Document 01, "Choosing a track": which net precedes which, and which nets are eligible.
use Rattle.std.specs.Prelude.{ℕ, ◌≡◌}
use mathlib.Core.List.{List, Memᴰ}
use Rattle.board.specs.declared.Net.{Net}
use Rattle.board.specs.Job.{Job}

-- m precedes another net n: the left row of m is the right row of n. No net precedes itself
pub record Precedes (m n : Net) : Type 0 where
  pub another : m.number ≡ n.number → ⊥
  pub meets : m.left.0 ≡ n.right.0

-- n is eligible, where `earlier` has the numbers of the nets on earlier tracks: it stands on none of those tracks, and every net
-- that precedes it does
pub record Eligible (job : Job) (earlier : List ℕ) (n : Net) : Type 0 where
  pub fresh : Memᴰ n.number earlier → ⊥
  pub ready : (m : Net) → Memᴰ m job.nets → Precedes m n → Memᴰ m.number earlier
