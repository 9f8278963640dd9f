-- `text::read_number` meets its contract. The invariant: v is the value of the digits passed, and the rest decides. Assumes nothing.
use mathlib.Core.Path.{sym}
use native.Mathlib.Omega.{arith}
use Rattle.text.proofs.Reading.{sofar_more, number_below, number_above, number_empty, number_long, number_whole}
use Rattle.text.proofs.read_number.Goals as goal
use Rattle.text.proofs.read_number.Goals.{then-is_empty-via-then-is_empty, then-is_empty-via-else-is_empty+then-most-s}

pub returns-then-is_empty : goal.returns-then-is_empty
returns-then-is_empty c =
    elim c.then-is_empty.branch [
      | then-is_empty-via-then-is_empty w ↦ sym (number_empty _ _ (grind arith))
      | then-is_empty-via-else-is_empty+then-most-s w ↦ sym (number_long _ _ (omega arith))
    ]

pub returns-in_default : goal.returns-in_default
returns-in_default c = sym (number_below _ c.loop-b.invariant (omega arith) (omega arith))

pub returns-in_default-2 : goal.returns-in_default-2
returns-in_default-2 c = sym (number_above _ c.loop-b.invariant (omega arith) (omega arith))

pub loop-b-preserved : goal.loop-b-preserved
loop-b-preserved c = rw (c.from.ensures, c.from-in-48-to-57.ensures) (sofar_more c.loop-b.invariant (omega arith) (omega arith) (omega arith))

pub returns : goal.returns
returns c = sym (number_whole _ c.loop-b.invariant (omega arith) (grind arith) (omega arith))
