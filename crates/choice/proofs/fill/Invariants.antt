-- Before each turn the rows below j − 1 are filled, and the listed candidates are those of the band in which row j − 1 lies, if it lies in one.
use Prim.Native.Nat.{◌-◌, ◌≤◌}
use Rattle.choice.proofs.Filling.{RowsLeft, BandAt}
use mathlib.Core.Path.{◌≡◌}
use lib.ListN.{length}
use Rattle.choice.proofs.fill.Given as goal

abbrev pub invariant-loop-j : goal.invariant-loop-j
invariant-loop-j l = record {
  rows_left : RowsLeft l.c l.flags l.rows l.best l.choice (l.j - 1);
  size : length l.band.slots ≡ 512;
  band : l.start ≤ l.j - 1 → BandAt l.c l.band l.start (l.j - 1);
}
