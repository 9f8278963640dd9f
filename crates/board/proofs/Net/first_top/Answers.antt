-- `Net::first_top` meets its contract. Assumes nothing.
use native.Mathlib.Omega.{arith}
use Rattle.board.specs.Placement.{first_top}
use Rattle.board.proofs.Net.first_top.Goals as goal

pub returns-then-a-e : goal.returns-then-a-e
unfolding first_top
returns-then-a-e c = omega arith

pub returns-else-a-e : goal.returns-else-a-e
unfolding first_top
returns-else-a-e c = omega arith
