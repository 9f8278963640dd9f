-- The statements of the model as tests: what the choice of a track and the check of a layout compute. proofs/ExactTests.antt shows that each
-- test passes exactly if its statement holds.
use Rattle.std.specs.Prelude.{ℕ, zero, suc, ◌+◌, ◌-◌, Bool, true, not, ◌&&◌, ◌||◌, List, leb, eqb}
use Rattle.lists.specs.Lists.{any_of, all_of}
use Rattle.board.specs.declared.Board.{Board}
use Rattle.board.specs.declared.Net.{Net}
use Rattle.board.specs.Length.{upper, lower, length_of}
use Rattle.board.specs.Job.{Job, blocked}
use Rattle.board.specs.Placement.{Placement, bottom}

-- the same net: the same number, ends, bounds and weight
unfoldable pub same_net : Net → Net → Bool
same_net m n =
    eqb m.number n.number && eqb m.left.0 n.left.0 && eqb m.right.0 n.right.0 &&
    eqb m.min n.min && eqb m.max n.max && eqb m.weight n.weight

-- the net of a placement is one of the job
unfoldable pub is_of_job : Job → Placement → Bool
is_of_job job p = any_of (same_net p.net) job.nets

-- min ≤ length
unfoldable pub is_long : Board → Placement → Bool
is_long board p = leb p.net.min (length_of board p.net p.shape)

-- length ≤ max
unfoldable pub is_short : Board → Placement → Bool
is_short board p = leb (length_of board p.net p.shape) p.net.max

-- the top is at least row 1
unfoldable pub is_from_one : Placement → Bool
is_from_one p = leb 1 p.top

-- the top is at or above the upper fixed row
unfoldable pub is_over_upper : Placement → Bool
is_over_upper p = leb p.top (upper p.net)

-- the bottom is at or below the lower fixed row
unfoldable pub is_under_lower : Placement → Bool
is_under_lower p = leb (lower p.net) (bottom p)

-- the bottom is at most row H
unfoldable pub is_to_last : Board → Placement → Bool
is_to_last board p = leb (bottom p) board.rows

-- none of the m rows from `row` on is blocked on track t
unfoldable pub clear_rows : Job → ℕ → ℕ → ℕ → Bool
clear_rows job t row zero = true
clear_rows job t row (suc m) = not (blocked job t row) && clear_rows job t (suc row) m

-- no row of the placement is blocked on track t
unfoldable pub is_clear : Job → ℕ → Placement → Bool
is_clear job t p = clear_rows job t p.top (bottom p + 1 - p.top)

-- the number of the net is among these: those of the nets on earlier tracks, or of the lines above
unfoldable pub is_on : List ℕ → Net → Bool
is_on numbers n = any_of (eqb n.number) numbers

-- m is another net than n, and its left row is n's right row: m precedes n
unfoldable pub is_before : Net → Net → Bool
is_before m n = not (eqb m.number n.number) && eqb m.left.0 n.right.0

-- every net that precedes n stands on an earlier track
unfoldable pub is_ready : Job → List ℕ → Net → Bool
is_ready job earlier n = all_of (λ m. not (is_before m n) || is_on earlier m) job.nets

-- n is eligible: it stands on no earlier track, and every net that precedes it does
unfoldable pub is_eligible : Job → List ℕ → Net → Bool
is_eligible job earlier n = not (is_on earlier n) && is_ready job earlier n
