-- Before each turn of the loop of `forms::read_arguments` so many numbers as are counted are in the array.
use Prim.Native.Nat.{◌-◌}
use Rattle.forms.proofs.Gathering.{ArgumentsRead}
use Rattle.forms.proofs.read_arguments.Given as goal

abbrev pub invariant-loop-next : goal.invariant-loop-next
invariant-loop-next l = ArgumentsRead l.s l.at l.numbers l.p l.count

abbrev pub decreases-loop-next : goal.decreases-loop-next
decreases-loop-next l = 6 - l.count
