-- `layoutforms::rows::point_rows` meets its contract. Assumes nothing.
use Rattle.std.proofs.Common.{sym}
use Rattle.layoutforms.proofs.PointsRead.{point_read, point_shorter}
use Rattle.layoutforms.proofs.RowsRead.{rows_more, rows_stop}
use Rattle.layoutforms.proofs.rows.point_rows.Goals as goal

pub loop-point-smaller : goal.loop-point-smaller
loop-point-smaller c = point_shorter _ _ (point_read _ _ (sym c.in-Some.ensures))

pub loop-point-preserved : goal.loop-point-preserved
loop-point-preserved c = rw c.with_point-rows.ensures (rows_more _ c.loop-point.invariant (point_read _ _ (sym c.in-Some.ensures)))

pub returns : goal.returns
returns c = rows_stop c.loop-point.invariant (sym (rw c.in_default.is at c.point_in.ensures))
