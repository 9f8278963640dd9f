-- `planner::plan_tracks` meets its contract. Assumes nothing.
use Prim.Native.Nat.{◌-◌}
use mathlib.Core.Path.{◌≡◌, ap, ap₂, ◌∙◌}
use native.Mathlib.Omega.{arith}
use Rattle.candidates.specs.Gathered.{Gathered}
use Rattle.choice.proofs.GatheredBounds.{gathered_bounds}
use Rattle.choice.proofs.FilledPlan.{filled_plan_lem}
use Rattle.planner.specs.Progressed.{on_first, progress_to, OnTurn}
use Rattle.planner.proofs.PlanIsBest.{best_plan}
use Rattle.planner.proofs.NextTrack.{gathered_first, none_planned, all_planned}
use Rattle.planner.proofs.plan_tracks.Goals.{After-gather}
use Rattle.planner.proofs.plan_tracks.Goals as goal

pub loop-t-init : goal.loop-t-init
loop-t-init c = none_planned c.args.job.now c.board-board.ensures.accepted

-- the candidates of the track on turn, with the nets of the tracks before it held
held : (c : After-gather) → Gathered c.args.job.now (on_first c.args.job.now (c.loop-t.t - 1)) c.loop-t.t c.gather.new.found c.gather.new.flags
held c =
    let tracks = ap (λ b. b.tracks) c.board-board.ensures.board in
    let on_turn : OnTurn c.args.job.now c.loop-t.t c.loop-t.p = record { track_range = (omega arith, omega arith); so_far = c.loop-t.invariant } in
    gathered_first c.args.job.now c.loop-t.t c.loop-t.p _ _ _ c.gather.new.found on_turn c.gather.ensures

pub fill-plan-requires : goal.fill-plan-requires
fill-plan-requires c =
    rw c.board-board.ensures.board
    (gathered_bounds c.args.job.now _ c.loop-t.t c.gather.new.found _ c.board-board.ensures.accepted (held (goal.at.fill-plan-requires c).After-gather)
    (omega (arith, c.requires)))

pub record_track-requires-clause-on_turn : goal.record_track-requires-clause-on_turn
record_track-requires-clause-on_turn c =
    let tracks = ap (λ b. b.tracks) c.board-board.ensures.board in
    let on_turn : OnTurn c.args.job.now c.loop-t.t c.loop-t.p = record { track_range = (omega arith, omega arith); so_far = c.loop-t.invariant } in
    rw c.stored.ensures.stored on_turn

pub record_track-requires-clause-plan_value : goal.record_track-requires-clause-plan_value
record_track-requires-clause-plan_value c =
    let g = (goal.at.record_track-requires-clause-plan_value c).After-gather in
    rw c.stored.ensures.stored
    ((rw c.board-board.ensures.board at c.fill-plan.ensures)
    ∙ filled_plan_lem c.args.job.now _ c.loop-t.t c.gather.new.found _ c.board-board.ensures.accepted (held g))

-- after the last track
pub returns-2-clause-answer : goal.returns-2-clause-answer
returns-2-clause-answer c =
    let e : c.loop-t.t ≡ c.args.job.now.board.tracks = omega (arith, ap (λ b. b.tracks) c.board-board.ensures.board) in
    c.record_track.ensures ∙ ap₂ progress_to c.stored.ensures.stored e ∙ all_planned c.args.job.now

pub returns-2-clause-best : goal.returns-2-clause-best
returns-2-clause-best c = rw (returns-2-clause-answer c) (best_plan c.args.job.now c.board-board.ensures.accepted)
