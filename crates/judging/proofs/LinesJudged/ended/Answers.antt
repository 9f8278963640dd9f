-- `judging::LinesJudged::ended` meets its contract. Assumes nothing.
use mathlib.Core.Path.{sym, ◌∙◌}
use Rattle.std.proofs.lemmas.Result.{err_from_is_err_and}
use Rattle.judging.proofs.Turns.{end_idle, end_place, in_place, out_of_place}
use Rattle.judging.proofs.Steps.{end_off}
use Rattle.judging.proofs.LinesJudged.ended.Goals as goal

pub returns-in_default-clause-keeps_step : goal.returns-in_default-clause-keeps_step
returns-in_default-clause-keeps_step c =
    λ job st x stands e is k. end_idle job c.args.line st x c.args.self stands e c.in_default.not-Running k

pub returns-then-not-is_end_turn-clause-keeps_step : goal.returns-then-not-is_end_turn-clause-keeps_step
returns-then-not-is_end_turn-clause-keeps_step c =
    λ job st x stands e is k.
    let j = c.in-Running.above in
    rw c.closed.ensures
    (out_of_place job c.args.tracks is j stands c.args.self c.in-Running.is st x _ (end_place job c.args.tracks is j stands st x e) k c.args.line
    (sym c.is_end_turn.ensures ∙ c.if-not-is_end_turn.true))

pub returns-in_err-settled-clause-keeps_step : goal.returns-in_err-settled-clause-keeps_step
returns-in_err-settled-clause-keeps_step c =
    let p = err_from_is_err_and c.from_residual.result c.from_residual.ensures.1 in
    rw (p.1, p.2)
    (λ job st x stands e is k.
    let j = c.in-Running.above in
    let h = in_place job c.args.tracks is j stands c.args.self c.in-Running.is st x _ (end_place job c.args.tracks is j stands st x e) k
    (sym c.is_end_turn.ensures ∙ c.if-not-is_end_turn.false) in
    end_off job c.args.line j stands st x _ e c.in_err-settled.ensures h.1 h.0)
