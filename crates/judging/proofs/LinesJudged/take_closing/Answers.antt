-- `judging::LinesJudged::take_closing` meets its contract. Assumes nothing.
use mathlib.Core.Path.{refl, sym, ◌∙◌}
use mathlib.Core.Bool.{true≢false}
use Rattle.std.proofs.lemmas.Result.{err_from_is_err_and}
use Rattle.layout.specs.Tree.{closes}
use Rattle.judging.proofs.Turns.{end_place, in_place}
use Rattle.judging.proofs.Steps.{closing_broken, closing_taken}
use Rattle.judging.proofs.LinesJudged.take_closing.Goals as goal

pub returns-in_err-above-clause-keeps_step : goal.returns-in_err-above-clause-keeps_step
returns-in_err-above-clause-keeps_step c =
    λ job st acc is n k.
    let p = err_from_is_err_and c.from_residual.result c.from_residual.ensures.1 in
    rw (p.1, p.2) (c.in_err-above.ensures.keeps_step job st closes c.args.stands.now refl is k)

pub returns-then-not-all_lined-clause-keeps_step : goal.returns-then-not-all_lined-clause-keeps_step
returns-then-not-all_lined-clause-keeps_step c =
    λ job st acc is n k.
    let a = c.args in
    let j = c.in_ok-above.above in
    let r = c.in_ok-above.ensures.running in
    let h = in_place job a.tracks is j a.stands.now a.self r.0 st closes _ (end_place job a.tracks is j a.stands.now st closes refl) k r.1 in
    closing_broken job a.line j a.stands.now st h.1 r.2 (λ lined. true≢false (sym (c.all_lined.ensures.1 (rw n at lined)) ∙ c.if-not-all_lined.true)) h.0

pub returns-clause-keeps_step : goal.returns-clause-keeps_step
returns-clause-keeps_step c =
    λ job st acc is n k.
    let a = c.args in
    let j = c.in_ok-above.above in
    let r = c.in_ok-above.ensures.running in
    let h = in_place job a.tracks is j a.stands.now a.self r.0 st closes _ (end_place job a.tracks is j a.stands.now st closes refl) k r.1 in
    closing_taken job a.line j a.stands.now st h.1 r.2 (rw n (c.all_lined.ensures.0 c.if-not-all_lined.false)) h.0
