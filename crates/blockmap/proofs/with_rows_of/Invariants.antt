-- Before each turn of the loop of `blockmap::with_rows_of` the rows from the first to before the current one are added.
use Rattle.blockmap.proofs.BlockRows.{Added}
use Rattle.blockmap.proofs.with_rows_of.Given as goal

abbrev pub invariant-loop-row : goal.invariant-loop-row
invariant-loop-row l = Added l.initial.next.words l.next.words l.first l.row
