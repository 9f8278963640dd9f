-- `judging::wires::remaining_after` meets its contract. Assumes nothing.
use Rattle.judging.proofs.Remaining.{checked_is}
use Rattle.judging.proofs.wires.remaining_after.Goals as goal

pub returns : goal.returns
returns c = rw c.in_ok-remaining.was (checked_is _ _ _ c.checked_sub.ensures)
