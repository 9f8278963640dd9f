-- `Net::lower` meets its contract. Assumes nothing.
use native.Mathlib.Omega.{arith}
use Rattle.board.specs.Length.{lower}
use Rattle.board.proofs.Net.lower.Goals as goal

pub returns-then-self : goal.returns-then-self
unfolding lower
returns-then-self c = omega arith

pub returns-else-self : goal.returns-else-self
unfolding lower
returns-else-self c = omega arith
