-- `checker::finish` meets its contract. Assumes nothing.
use Rattle.checker.proofs.LayoutLeft.{ends_sound, ends_early}
use Rattle.checker.proofs.finish.Goals as goal

pub returns-in-Finished : goal.returns-in-Finished
returns-in-Finished c = λ job st stands k. ends_sound job st stands c.args.line (rw c.in-Finished.is at k)

pub returns-in_default : goal.returns-in_default
returns-in_default c =
    let a = c.args in
    λ job st stands k. rw c.closed.ensures (ends_early job st a.m stands a.line k c.in_default.not-Finished)
