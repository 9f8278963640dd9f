-- Before each turn of the loop of `layoutforms::rows::point_rows` the rows are those of the points passed, and those that are left decide.
use Rattle.std.proofs.Common.{length}
use Rattle.layoutforms.proofs.RowsRead.{RowsSoFar}
use Rattle.layoutforms.proofs.rows.point_rows.Given as goal

abbrev pub invariant-loop-point : goal.invariant-loop-point
invariant-loop-point l = RowsSoFar l.initial.s l.column l.rows l.s

abbrev pub decreases-loop-point : goal.decreases-loop-point
decreases-loop-point l = length l.s
