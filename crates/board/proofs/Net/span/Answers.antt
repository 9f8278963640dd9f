-- `Net::span` meets its contract. Assumes nothing.
use native.Mathlib.Omega.{arith}
use Rattle.board.specs.Length.{upper, lower, span}
use Rattle.board.proofs.Net.span.Goals as goal

pub overflow_sub-result : goal.overflow_sub-result
unfolding upper lower
overflow_sub-result c = omega arith

pub returns : goal.returns
unfolding span
returns c = omega arith
