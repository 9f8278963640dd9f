-- `judging::LinesJudged::take_track` meets its contract. Assumes nothing.
use mathlib.Core.Path.{refl, sym, ◌∙◌}
use Rattle.std.proofs.lemmas.Result.{err_from_is_err_and}
use Rattle.layout.specs.Tree.{track}
use Rattle.drc.specs.Judge.{is_opening}
use Rattle.judging.proofs.Turns.{idle_off, track_place, in_place, out_of_place}
use Rattle.judging.proofs.Steps.{track_off, track_taken}
use Rattle.judging.proofs.LinesJudged.take_track.Goals as goal

pub returns-in_default-clause-keeps_step : goal.returns-in_default-clause-keeps_step
unfolding is_opening
returns-in_default-clause-keeps_step c =
    let a = c.args in
    λ job st stands is k. idle_off job a.line st (track a.track.0 a.printed) a.self stands refl c.in_default.not-Running k

pub returns-then-not-is_track_turn-clause-keeps_step : goal.returns-then-not-is_track_turn-clause-keeps_step
returns-then-not-is_track_turn-clause-keeps_step c =
    λ job st stands is k.
    let a = c.args in
    let j = c.in-Running.above in
    rw c.closed.ensures
    (out_of_place job a.tracks is j stands a.self c.in-Running.is st (track a.track.0 a.printed) _ (track_place job a.tracks is j stands st a.track.0 a.printed) k
    a.line (sym c.is_track_turn.ensures ∙ c.if-not-is_track_turn.true))

pub returns-in_err-settled-clause-keeps_step : goal.returns-in_err-settled-clause-keeps_step
returns-in_err-settled-clause-keeps_step c =
    λ job st stands is k.
    let a = c.args in
    let j = c.in-Running.above in
    let h = in_place job a.tracks is j stands a.self c.in-Running.is st (track a.track.0 a.printed) _ (track_place job a.tracks is j stands st a.track.0 a.printed) k
    (sym c.is_track_turn.ensures ∙ c.if-not-is_track_turn.false) in
    let p = err_from_is_err_and c.from_residual.result c.from_residual.ensures.1 in
    rw (p.1, p.2) (track_off job a.line j stands st a.track.0 a.printed _ c.in_err-settled.ensures h.1 h.0)

pub returns-clause-keeps_step : goal.returns-clause-keeps_step
returns-clause-keeps_step c =
    λ job st stands is k.
    let a = c.args in
    let j = c.in-Running.above in
    let h = in_place job a.tracks is j stands a.self c.in-Running.is st (track a.track.0 a.printed) _ (track_place job a.tracks is j stands st a.track.0 a.printed) k
    (sym c.is_track_turn.ensures ∙ c.if-not-is_track_turn.false) in
    track_taken job a.line j stands st a.track.0 a.printed h.1 c.in_ok-settled.ensures h.0
