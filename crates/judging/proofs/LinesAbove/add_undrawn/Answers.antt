-- `judging::LinesAbove::add_undrawn` meets its contract. Assumes nothing.
use Rattle.judging.proofs.WireSteps.{undrawn_added}
use Rattle.judging.proofs.LinesAbove.add_undrawn.Goals as goal

pub returns-clause-keeps_summary : goal.returns-clause-keeps_summary
returns-clause-keeps_summary c =
    λ job s w before after v h.
    rw (c.remaining_after.ensures, c.breach_after.ensures) (undrawn_added job c.args.line s w c.args.self before after c.args.weight v h)
