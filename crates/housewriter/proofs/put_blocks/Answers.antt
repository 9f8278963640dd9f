-- `housewriter::put_blocks` meets its contract: before each turn of the loop the blocks passed, in order, are written. Assumes nothing.
use Prim.Native.Nat.{◌+◌}
use native.Mathlib.Omega.{arith}
use lib.ListN.{length, get_or, take, drop}
use Rattle.text.proofs.Writing.{at_rest, rest_room}
use Rattle.text.proofs.Runs.{going_on, going_room, going_more, going_end}
use Rattle.board.specs.Stored.{no_block}
use Rattle.house.specs.HouseText.{block_line}
use Rattle.joblines.specs.Lines.{ended}
use Rattle.housewriter.specs.Parts.{blocks_text}
use Rattle.housewriter.proofs.Parts.{lines_step, lines_last}
use Rattle.housewriter.proofs.put_blocks.Goals as goal

pub block_line-next-requires : goal.block_line-next-requires
block_line-next-requires c =
    let blocks = take (length c.blocks-blocks.result.now) c.sorted_blocks-sorted.result in
    let i = c.loop-block.block-index in
    let e = lines_step block_line blocks i no_block (omega arith) in
    let h = rw (← c.sorted_blocks-sorted.ensures, ← c.blocks-blocks.ensures.blocks) at c.requires in
    rest_room _ _ (going_room (ended (block_line (get_or blocks i no_block))) (blocks_text (drop (i + 1) blocks)) (going_on e c.loop-block.invariant) h)

pub loop-block-preserved : goal.loop-block-preserved
loop-block-preserved c =
    let blocks = take (length c.blocks-blocks.result.now) c.sorted_blocks-sorted.result in
    let i = c.loop-block.block-index in
    let e = lines_step block_line blocks i no_block (omega arith) in
    let h = rw (← c.sorted_blocks-sorted.ensures, ← c.blocks-blocks.ensures.blocks) at c.requires in
    let w = at_rest _ _ _ _ _ c.block_line-next.ensures in
    going_more (ended (block_line (get_or blocks i no_block))) (blocks_text (drop (i + 1) blocks)) (going_on e c.loop-block.invariant) h w

pub returns : goal.returns
returns c =
    let blocks = take (length c.blocks-blocks.result.now) c.sorted_blocks-sorted.result in
    rw (← c.sorted_blocks-sorted.ensures, ← c.blocks-blocks.ensures.blocks)
    (going_end (going_on (lines_last block_line blocks c.loop-block.block-index (omega arith)) c.loop-block.invariant))
