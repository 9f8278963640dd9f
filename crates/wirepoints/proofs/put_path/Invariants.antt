-- Before each turn of the loop of `wirepoints::put_path` the points passed are written, each unless it is equal to the one before.
use lib.ListN.{drop}
use Rattle.text.specs.Runs.{Going}
use Rattle.wirepoints.specs.Points.{path_text}
use Rattle.wirepoints.proofs.put_path.Given as goal

abbrev pub invariant-loop-point : goal.invariant-loop-point
invariant-loop-point l = Going l.at (path_text l.fn.before l.points) (path_text l.last (drop l.point-index l.points)) l.initial.out l.out l.next
