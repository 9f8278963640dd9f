-- Before each turn the wires from row j on, stored over what is there, give what all the wires give.
use Prim.Native.Nat.{◌+◌, ◌-◌}
use Rattle.board.specs.Stored.{job_of}
use Rattle.planner.proofs.Walking.{Walking}
use Rattle.planner.proofs.record_track.Given as goal

abbrev pub invariant-loop-j : goal.invariant-loop-j
invariant-loop-j l = Walking (job_of l.job) l.track.0 l.initial.p l.p l.j

abbrev pub decreases-loop-j : goal.decreases-loop-j
decreases-loop-j l = l.board.rows + 1 - l.j
