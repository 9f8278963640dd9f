-- `drawnwires::is_on_board` meets its contract. Assumes nothing.
use Rattle.std.proofs.Common.{arith}
use Rattle.std.proofs.lemmas.Grind.{common_steps}
use Rattle.board.specs.Tests.{is_from_one, is_over_upper, is_under_lower, is_to_last}
use Rattle.drc.specs.Covers.{is_on_board}
use Rattle.drawnwires.proofs.is_on_board.Goals as goal

pub returns-then-contains : goal.returns-then-contains
unfolding is_on_board is_from_one is_over_upper is_under_lower is_to_last
returns-then-contains c = grind (arith, common_steps)

pub returns-else-contains : goal.returns-else-contains
unfolding is_on_board is_from_one is_over_upper is_under_lower is_to_last
returns-else-contains c = grind (arith, common_steps)
