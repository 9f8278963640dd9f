-- Before each turn the table has the nets passed.
use lib.ListN.{length, take}
use mathlib.Core.Path.{◌≡◌}
use Rattle.candidates.proofs.NetBefore.{ByLeft}
use Rattle.candidates.proofs.nets_by_left.Given as goal

abbrev pub invariant-loop-i : goal.invariant-loop-i
invariant-loop-i l = record {
  same_length : length l.by_left ≡ 1024;
  passed : ByLeft l.by_left (take l.i l.job.nets);
}
