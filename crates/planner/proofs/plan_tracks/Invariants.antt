-- Before each turn the tracks before t are planned.
use Prim.Native.Nat.{◌-◌}
use mathlib.Core.Path.{◌≡◌}
use Rattle.planner.specs.Progressed.{progress_to}
use Rattle.planner.proofs.plan_tracks.Given as goal

abbrev pub invariant-loop-t : goal.invariant-loop-t
invariant-loop-t l = l.p ≡ progress_to l.job (l.t - 1)
