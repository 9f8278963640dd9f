-- `blockmap::with_rows_of` meets its contract: before each turn of the loop the rows from the first to before the current one are added. Assumes nothing.
use Prim.Native.Nat.{◌+◌}
use mathlib.Core.Path.{◌≡◌}
use native.Mathlib.Omega.{arith}
use Rattle.blockmap.proofs.BlockRows.{added_none, added_more, added_all}
use Rattle.blockmap.proofs.with_rows_of.Goals as goal

pub loop-row-init : goal.loop-row-init
loop-row-init c = added_none c.args.map.words c.args.block.first.0

pub loop-row-preserved : goal.loop-row-preserved
loop-row-preserved c =
    let a = c.args in
    let l = c.loop-row in
    added_more a.map.words l.next.words c.with_row-next.result.words a.block.first.0 l.row (omega arith) l.invariant c.with_row-next.ensures

pub returns : goal.returns
returns c =
    let a = c.args in
    let l = c.loop-row in
    let e : l.row ≡ a.block.last.0 + 1 = omega arith in
    added_all a.map.words l.next.words a.block.first.0 a.block.last.0 (rw e at l.invariant)
