-- Before each turn of the loop of `text::read_number` v is the value of the digits passed, and the rest decides.
use Rattle.text.proofs.Reading.{Sofar}
use Rattle.text.proofs.read_number.Given as goal

abbrev pub invariant-loop-b : goal.invariant-loop-b
invariant-loop-b l = Sofar l.s l.v l.b-index
