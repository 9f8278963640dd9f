-- `forms::read_arguments` meets its contract. The invariant: so many numbers as are counted are in the array. Assumes nothing.
use mathlib.Core.Path.{refl}
use native.Mathlib.Omega.{arith}
use Rattle.forms.proofs.Gathering.{gathered_none, gathered_none_left, shut_inside, gathered_all, word_at, gathered_bad, gathered_more, gathered_seventh, gathered_open}
use Rattle.forms.proofs.read_arguments.Goals as goal

pub loop-next-init : goal.loop-next-init
loop-next-init c = gathered_none _ _ _ c.requires refl

pub returns-in_err-next : goal.returns-in_err-next
returns-in_err-next c = rw c.from_residual.ensures (gathered_none_left _ _ _ _ _ c.loop-next.invariant c.in_err-next.ensures)

pub at_end-requires : goal.at_end-requires
at_end-requires c = shut_inside _ _ _ _ _ c.loop-next.invariant _ c.in_ok-next.ensures _ c.in-Shut.is

pub returns-in-Shut : goal.returns-in-Shut
returns-in-Shut c = rw c.then_some.ensures (gathered_all _ _ _ _ _ c.loop-next.invariant _ c.in_ok-next.ensures _ c.in-Shut.is _ c.at_end.ensures)

pub slice_bounds-read_number-count : goal.slice_bounds-read_number-count
slice_bounds-read_number-count c = let t = word_at _ _ _ _ _ c.loop-next.invariant _ c.in_ok-next.ensures _ _ c.in-Word.is in omega arith

pub slice_bounds-read_number-start : goal.slice_bounds-read_number-start
slice_bounds-read_number-start c = let t = word_at _ _ _ _ _ c.loop-next.invariant _ c.in_ok-next.ensures _ _ c.in-Word.is in omega arith

pub slice_bounds-read_number-end : goal.slice_bounds-read_number-end
slice_bounds-read_number-end c = let t = word_at _ _ _ _ _ c.loop-next.invariant _ c.in_ok-next.ensures _ _ c.in-Word.is in omega arith

pub returns-in_err-numbers-in-Word : goal.returns-in_err-numbers-in-Word
returns-in_err-numbers-in-Word c =
    rw c.from_residual-in_err-numbers-in-Word.ensures
    (gathered_bad _ _ _ _ _ c.loop-next.invariant _ c.in_ok-next.ensures _ _ c.in-Word.is c.if-count-lt6.true c.in_err-numbers-in-Word.ensures)

pub loop-next-preserved : goal.loop-next-preserved
loop-next-preserved c =
    gathered_more _ _ _ _ _ c.loop-next.invariant _ c.in_ok-next.ensures _ _ c.in-Word.is c.if-count-lt6.true _ c.in_ok-numbers-in-Word.ensures

pub returns-in_default : goal.returns-in_default
returns-in_default c = gathered_seventh _ _ _ _ _ c.loop-next.invariant _ c.in_ok-next.ensures _ _ c.in-Word.is c.if-count-lt6.false

pub returns-in_default-2 : goal.returns-in_default-2
returns-in_default-2 c = gathered_open _ _ _ _ _ c.loop-next.invariant _ c.in_ok-next.ensures _ c.in_default.is
