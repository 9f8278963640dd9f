-- Before each turn the band is that of the candidates looked at.
use mathlib.Core.Path.{◌≡◌}
use Rattle.choice.specs.Filled.{band_to}
use Rattle.choice.proofs.list_band.Given as goal

abbrev pub invariant-loop-i : goal.invariant-loop-i
invariant-loop-i l = l.band ≡ band_to l.c l.lo.0 l.hi.0 l.fn.band.slots l.i
