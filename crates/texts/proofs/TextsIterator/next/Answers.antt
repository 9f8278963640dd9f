-- `next` of `texts::Texts` meets its contract. Assumes nothing.
use native.Mathlib.Omega.{arith}
use Rattle.texts.proofs.TextsLeft.{none_left, first_text, moves_on}
use Rattle.texts.proofs.TextsIterator.next.Goals as goal

pub returns-then-is_empty-clause-steps : goal.returns-then-is_empty-clause-steps
returns-then-is_empty-clause-steps c = let e = none_left _ (grind arith) in (e, e)

pub returns-clause-steps : goal.returns-clause-steps
returns-clause-steps c = first_text _ _ _ (grind arith) c.text_end-end.ensures.0 c.min.ensures

pub returns-clause-goes : goal.returns-clause-goes
returns-clause-goes c =
    let e = first_text _ _ _ (grind arith) c.text_end-end.ensures.0 c.min.ensures in
    record { on = λ h. (tt, tt, moves_on e); keeps = tt; rests = λ h. tt }
