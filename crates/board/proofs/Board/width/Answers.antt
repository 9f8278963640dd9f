-- `Board::width` meets its contract. Assumes nothing.
use native.Mathlib.Omega.{arith}
use Rattle.board.specs.Length.{width}
use Rattle.board.proofs.Board.width.Goals as goal

pub returns : goal.returns
unfolding width
returns c = omega arith
