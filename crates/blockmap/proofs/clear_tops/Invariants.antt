-- Before each turn of the outer loop of `blockmap::clear_tops` the bytes of the tops tried are right, those of the other tops are 0 and every other
-- is as it was; the rows from the top to before `known` are clear; and row `blocked`, if the top is not below it, is blocked and covered. Before
-- each turn of the inner one the rows from the top to before the current one are clear, and the top is below row `blocked`.
use Prim.Native.Nat.{◌≤◌, ◌<◌, ◌+◌, ◌-◌}
use mathlib.Core.Path.{◌≡◌}
use mathlib.Core.Bool.{true}
use lib.ListN.{length}
use Rattle.blockmap.specs.Bits.{is_set}
use Rattle.blockmap.specs.Clear.{all_unset, flag_tops}
use Rattle.blockmap.proofs.ClearRows.{ClearFrom}
use Rattle.blockmap.proofs.clear_tops.Given as goal

abbrev pub invariant-loop-row : goal.invariant-loop-row
invariant-loop-row l = record {
  in_scan : l.row ≤ l.end;
  from_top : l.top ≤ l.row;
  clear : ClearFrom l.map.words l.top l.row;
  below : l.blocked < l.top;
}

abbrev pub invariant-tops : goal.invariant-tops
invariant-tops l = record {
  same_length : length l.flags ≡ length l.initial.flags;
  written : l.flags ≡ flag_tops (λ t. all_unset l.map.words t l.rows) l.start (l.top - l.start) l.initial.flags;
  not_past : l.known ≤ l.top + l.rows;
  clear : ClearFrom l.map.words l.top l.known;
  covered : l.blocked < l.top + l.rows;
  met : l.top ≤ l.blocked → is_set l.map.words l.blocked ≡ true;
}
