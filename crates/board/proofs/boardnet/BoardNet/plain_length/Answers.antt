-- `BoardNet::plain_length` meets its contract. Assumes nothing.
use native.Mathlib.Omega.{arith}
use Rattle.board.specs.Length.{plain_length}
use Rattle.board.proofs.ShortestShape.{plain_range}
use Rattle.board.proofs.boardnet.BoardNet.plain_length.Goals as goal

pub overflow_add-result : goal.overflow_add-result
unfolding plain_length
overflow_add-result c =
    let a = c.args in
    let p = plain_range a.self.board a.self.net c.args.self.board_in_range c.args.self.net_in_range in
    omega arith

pub returns : goal.returns
unfolding plain_length
returns c = omega arith
