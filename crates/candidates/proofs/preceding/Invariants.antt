-- Before each turn the array has the nets passed.
use mathlib.Core.Path.{◌≡◌}
use mathlib.Core.List.{map}
use lib.ListN.{take}
use Rattle.std.specs.Prelude.{None}
use Rattle.candidates.specs.Placed.{padded, before_in}
use Rattle.candidates.proofs.preceding.Given as goal

abbrev pub invariant-loop-i : goal.invariant-loop-i
invariant-loop-i l = l.before ≡ padded None (map (before_in l.job.nets) (take l.i l.job.nets))
