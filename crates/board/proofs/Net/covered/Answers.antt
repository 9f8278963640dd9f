-- `Net::covered` meets its contract. Assumes nothing.
use native.Mathlib.Omega.{arith}
use Rattle.board.specs.Placement.{covered}
use Rattle.board.proofs.ShortestShape.{span_add}
use Rattle.board.proofs.Net.covered.Goals as goal

pub overflow_add-result : goal.overflow_add-result
overflow_add-result c = let e = span_add c.args.self in omega arith

pub overflow_add-result-2 : goal.overflow_add-result-2
overflow_add-result-2 c = let e = span_add c.args.self in omega arith

pub returns : goal.returns
unfolding covered
returns c = omega arith
