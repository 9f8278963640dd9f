-- Before each turn of the loop of `layoutforms::all_points` the points that are left decide.
use Rattle.std.proofs.Common.{◌≡◌, length}
use Rattle.layoutforms.specs.Exact.{is_points}
use Rattle.layoutforms.proofs.all_points.Given as goal

abbrev pub invariant-loop-rest : goal.invariant-loop-rest
invariant-loop-rest l = is_points l.initial.s ≡ is_points l.s

abbrev pub decreases-loop-rest : goal.decreases-loop-rest
decreases-loop-rest l = length l.s
