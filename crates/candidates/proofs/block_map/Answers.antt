-- `candidates::block_map` meets its contract. Assumes nothing.
use Prim.Native.Nat.{◌<◌}
use mathlib.Core.Path.{ap}
use native.Mathlib.Omega.{arith}
use lib.ListN.{length}
use Rattle.std.proofs.lemmas.List.{take_all}
use Rattle.board.specs.Job.{blocked}
use Rattle.board.specs.Stored.{no_block}
use Rattle.candidates.proofs.TrackBlocks.{map_none, map_more, block_range}
use Rattle.candidates.proofs.block_map.Goals as goal

pub loop-block-init : goal.loop-block-init
loop-block-init c = map_none c.no_rows-map.result.words c.args.track.0 c.args.job.now.blocks c.no_rows-map.ensures.1

pub with_block_on-map-requires : goal.with_block_on-map-requires
with_block_on-map-requires c =
    let lent = c.blocks-block-items.ensures in
    let i : c.loop-block.block-index < length c.args.job.now.blocks = omega (arith, ap length lent.blocks) in
    let r = block_range c.args.job.now lent.accepted c.loop-block.block-index i in
    let h = lent.accepted.board_range in
    rw lent.blocks (r.first_range, r.in_order, omega arith)

pub loop-block-preserved : goal.loop-block-preserved
loop-block-preserved c =
    let lent = c.blocks-block-items.ensures in
    let i : c.loop-block.block-index < length c.args.job.now.blocks = omega (arith, ap length lent.blocks) in
    map_more c.loop-block.map.words c.with_block_on-map.result.words c.args.track.0 c.args.job.now.blocks c.loop-block.block-index no_block i
    c.loop-block.invariant (rw lent.blocks at c.with_block_on-map.ensures)

pub returns : goal.returns
unfolding blocked
returns c =
    rw (take_all c.loop-block.block-index c.args.job.now.blocks (omega (arith, ap length c.blocks-block-items.ensures.blocks))) at c.loop-block.invariant
