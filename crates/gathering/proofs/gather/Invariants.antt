-- Before each turn candidates and flags hold the eligible nets among the nets passed.
use Prim.Native.Nat.{◌≤◌}
use mathlib.Core.Path.{◌≡◌}
use lib.ListN.{length}
use Rattle.gathering.proofs.Gathering.{Passed}
use Rattle.gathering.proofs.gather.Given as goal

abbrev pub invariant-loop-i : goal.invariant-loop-i
invariant-loop-i l = record {
  size : length l.fn.found.slots ≡ 512;
  no_more : l.found.count ≤ l.i;
  passed : Passed l.job l.stands l.map l.fn.found.slots l.fn.flags l.found l.flags l.i;
}
