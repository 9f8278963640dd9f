-- Before each turn of the loop of `checker::judge_lines` the lines that are left decide, and each turn goes on by a line.
use Prim.Native.Nat.{◌-◌}
use lib.ListN.{length}
use Rattle.checker.proofs.LayoutLeft.{LayoutLeft}
use Rattle.checker.proofs.judge_lines.Given as goal

abbrev pub invariant-loop-read : goal.invariant-loop-read
invariant-loop-read l = LayoutLeft l.tables.job.now l.text l.m l.stands l.map.words l.place

abbrev pub decreases-loop-read : goal.decreases-loop-read
decreases-loop-read l = length l.text - l.place.at
