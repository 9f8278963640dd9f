-- Before each turn of the loop of `housewriter::put_blocks` the lines of the blocks passed are written.
use lib.ListN.{drop}
use Rattle.text.specs.Runs.{Going}
use Rattle.housewriter.specs.Parts.{blocks_text}
use Rattle.housewriter.proofs.put_blocks.Given as goal

abbrev pub invariant-loop-block : goal.invariant-loop-block
invariant-loop-block l = Going l.at (blocks_text l.block-items) (blocks_text (drop l.block-index l.block-items)) l.initial.out l.out l.next
