-- `judging::LinesAbove::add_drawn` meets its contract. Assumes nothing.
use Prim.Native.Nat.{ℕ, ◌+◌, ◌-◌}
use mathlib.Core.Path.{ap, ◌∙◌}
use mathlib.Core.Bool.{Bool}
use native.Mathlib.Omega.{arith}
use Rattle.board.specs.Weight.{weight}
use Rattle.board.proofs.ShortestShape.{fixed_rows}
use Rattle.drc.specs.Pass.{breach_after}
use Rattle.judging.proofs.Rows.{drawn_rows}
use Rattle.judging.proofs.WireSteps.{drawn_kept}
use Rattle.judging.proofs.LinesAbove.add_drawn.Goals as goal

pub covered-rows-requires-clause-net_bound : goal.covered-rows-requires-clause-net_bound
covered-rows-requires-clause-net_bound c =
    let net = c.args.wire.found.net in
    omega (arith, fixed_rows net.board net.net net.net_in_range, net.board_in_range.rows_range)

pub overflow_add-result : goal.overflow_add-result
overflow_add-result c =
    let f = drawn_rows c.args.wire in
    let e = c.covered-rows.ensures in
    omega (arith, f.1, e)

pub returns-clause-keeps_summary : goal.returns-clause-keeps_summary
unfolding weight
returns-clause-keeps_summary c =
    let a = c.args in
    λ job m v acc found numbered blocks h.
    rw c.remaining_after.ensures
    (drawn_kept job a.line m v a.self acc a.wire.found a.wire.wired found numbered a.words.now a.stands.now blocks _ _
    (ap (λ (rows : ℕ). a.wire.wired.top.0 + rows - 1) c.covered-rows.ensures)
    (c.breach_after.ensures ∙ ap (λ (passed : Bool). breach_after a.self.breach a.line passed) c.may_stand-passed.ensures)
    h)
