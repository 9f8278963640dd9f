-- Before each turn the table has what the choice needs of the nets passed.
use mathlib.Core.Path.{◌≡◌}
use lib.ListN.{length}
use Rattle.toptable.specs.TopsTable.{FirstTops}
use Rattle.toptable.proofs.put_all_tops.Given as goal

abbrev pub invariant-loop-i : goal.invariant-loop-i
invariant-loop-i l = record {
  same_length : length l.table ≡ 512;
  passed : FirstTops l.board l.nets l.before l.stands l.i l.table;
}
