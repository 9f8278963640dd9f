-- Before each turn of the loop of `judging::nets::numbers_of` the array has the numbers of the nets passed.
use mathlib.Core.Path.{◌≡◌}
use lib.ListN.{length, take}
use Rattle.candidates.specs.Placed.{padded}
use Rattle.judging.proofs.Indexes.{numbers_in}
use Rattle.judging.proofs.nets.numbers_of.Given as goal

abbrev pub invariant-loop-i : goal.invariant-loop-i
invariant-loop-i l = (length l.numbers ≡ 512) × (l.numbers ≡ padded 0 (numbers_in (take l.i l.job.nets)))
