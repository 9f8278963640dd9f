-- `judging::LinesJudged::take_loose` meets its contract. Assumes nothing.
use mathlib.Core.Path.{refl, sym, ◌∙◌}
use Rattle.std.proofs.lemmas.Result.{err_from_is_err_and}
use Rattle.layout.specs.Tree.{loose}
use Rattle.judging.proofs.Turns.{end_place, in_place}
use Rattle.judging.proofs.Steps.{loose_unknown, loose_lined, loose_late, loose_taken}
use Rattle.judging.proofs.LinesJudged.take_loose.Goals as goal
use Rattle.judging.proofs.LinesJudged.take_loose.Goals.{then-is_some-via-then-is_some, then-is_some-via-else-is_some+then-not-is_above_last}

pub returns-in_err-above-clause-keeps_step : goal.returns-in_err-above-clause-keeps_step
returns-in_err-above-clause-keeps_step c =
    λ job st acc is n k.
    let p = err_from_is_err_and c.from_residual.result c.from_residual.ensures.1 in
    rw (p.1, p.2) (c.in_err-above.ensures.keeps_step job st (loose c.args.number) c.args.stands.now refl is k)

pub returns-in_default-clause-keeps_step : goal.returns-in_default-clause-keeps_step
returns-in_default-clause-keeps_step c =
    λ job st acc is n k.
    let a = c.args in
    let j = c.in_ok-above.above in
    let r = c.in_ok-above.ensures.running in
    let h = in_place job a.tracks is j a.stands.now a.self r.0 st (loose a.number) _ (end_place job a.tracks is j a.stands.now st (loose a.number) refl) k r.1 in
    loose_unknown job a.line j a.stands.now acc a.number st h.1 r.2 (sym c.in_default.is ∙ n) h.0

pub returns-then-is_some-clause-keeps_step : goal.returns-then-is_some-clause-keeps_step
returns-then-is_some-clause-keeps_step c =
    λ job st acc is n k.
    let a = c.args in
    let j = c.in_ok-above.above in
    let r = c.in_ok-above.ensures.running in
    let h = in_place job a.tracks is j a.stands.now a.self r.0 st (loose a.number) _ (end_place job a.tracks is j a.stands.now st (loose a.number) refl) k r.1 in
    let found = sym c.in-Some.is ∙ n in
    elim c.then-is_some.branch [
      | then-is_some-via-then-is_some w ↦
          loose_lined job a.line j a.stands.now acc a.number c.in-Some.index found st h.1 r.2 (sym c.is_some.ensures ∙ w.if-is_some.true) h.0
      | then-is_some-via-else-is_some+then-not-is_above_last w ↦
          loose_late job a.line j a.stands.now acc a.number c.in-Some.index found st h.1 r.2 (sym w.is_above_last.ensures ∙ w.if-not-is_above_last.true) h.0
    ]

pub returns-clause-keeps_step : goal.returns-clause-keeps_step
returns-clause-keeps_step c =
    λ job st acc is n k.
    let a = c.args in
    let j = c.in_ok-above.above in
    let r = c.in_ok-above.ensures.running in
    let h = in_place job a.tracks is j a.stands.now a.self r.0 st (loose a.number) _ (end_place job a.tracks is j a.stands.now st (loose a.number) refl) k r.1 in
    loose_taken job a.line j a.stands.now acc a.number c.in-Some.index (sym c.in-Some.is ∙ n) st h.1 r.2 (sym c.is_some.ensures ∙ c.if-is_some.false) (sym c.is_above_last.ensures ∙ c.if-not-is_above_last.false) h.0
