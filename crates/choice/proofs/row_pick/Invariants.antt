-- Before each turn the pick is that of the candidates looked at.
use mathlib.Core.Path.{◌≡◌}
use Rattle.choice.specs.Filled.{pick_among}
use Rattle.choice.proofs.row_pick.Given as goal

abbrev pub invariant-loop-listed : goal.invariant-loop-listed
invariant-loop-listed l = l.p ≡ pick_among l.flags l.best l.row.0 l.band.slots l.listed-index
