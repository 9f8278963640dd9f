-- `Net::upper` meets its contract. Assumes nothing.
use native.Mathlib.Omega.{arith}
use Rattle.board.specs.Length.{upper}
use Rattle.board.proofs.Net.upper.Goals as goal

pub returns-then-self : goal.returns-then-self
unfolding upper
returns-then-self c = omega arith

pub returns-else-self : goal.returns-else-self
unfolding upper
returns-else-self c = omega arith
