-- `blockmap::with_block_on` meets its contract: a block of another track closes no row of this one. Assumes nothing.
use borrow.Author.Tests.{eq-eqb, ne_eqb}
use Rattle.board.specs.Job.{closes_row}
use Rattle.blockmap.proofs.with_block_on.Goals as goal

pub returns-then-block-track : goal.returns-then-block-track
unfolding closes_row
returns-then-block-track c k =
    let a = c.args in
    rw (eq-eqb a.block.track.0 a.track.0 c.if-block-track.true) (c.with_rows_of.ensures k)

pub returns : goal.returns
unfolding closes_row
returns c k =
    let a = c.args in
    rw (ne_eqb a.block.track.0 a.track.0 c.if-block-track.false)
