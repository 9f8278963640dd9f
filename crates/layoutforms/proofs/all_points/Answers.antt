-- `layoutforms::all_points` meets its contract. Assumes nothing.
use Rattle.std.proofs.Common.{sym, ◌∙◌}
use Rattle.layoutforms.proofs.PointsRead.{point_read, point_shorter, still_points, points_stop}
use Rattle.layoutforms.proofs.all_points.Goals as goal

pub loop-rest-smaller : goal.loop-rest-smaller
loop-rest-smaller c = point_shorter _ _ (point_read _ _ (sym c.in-Some.ensures))

pub loop-rest-preserved : goal.loop-rest-preserved
loop-rest-preserved c = c.loop-rest.invariant ∙ still_points _ _ (point_read _ _ (sym c.in-Some.ensures))

pub returns : goal.returns
returns c = c.is_shut.ensures ∙ sym (c.loop-rest.invariant ∙ points_stop _ (sym (rw c.in_default.is at c.point_in.ensures)))
