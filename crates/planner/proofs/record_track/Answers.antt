-- `planner::record_track` meets its contract. Assumes nothing.
use Prim.Native.Nat.{◌<◌, ◌+◌, ◌-◌}
use mathlib.Core.Path.{◌≡◌, sym, ap, ◌∙◌}
use native.Mathlib.Omega.{arith}
use lib.ListN.{length, take, get_or, length-take}
use lib.Seq.{get_or-take}
use Rattle.board.specs.Length.{shortest, needed}
use Rattle.board.specs.Stored.{no_net, job_of}
use Rattle.board.proofs.ShortestShape.{needed_pos}
use Rattle.planner.proofs.Walking.{Taken, row_none, row_some, walking_start, walking_none, walking_some, walking_end}
use Rattle.planner.proofs.record_track.Goals.{In-Some}
use Rattle.planner.proofs.record_track.Goals as goal

-- the net chosen for the row
here : (c : In-Some) → Taken (job_of c.args.job.now) c.args.track.0 c.loop-j.j c.in-Some.c
here c =
    row_some (job_of c.args.job.now) c.requires.accepted_job c.args.track.0 c.args.plan.now c.requires.plan_value c.loop-j.j c.loop-j.invariant.low c.loop-j-test.true
    c.in-Some.c c.in-Some.is

-- its index
in_nets : (c : In-Some) → c.in-Some.c < 512
in_nets c = omega (arith, (here c).below, c.requires.accepted_job.nets_count)

-- it stands in the job's array
stands : (c : In-Some) → get_or c.args.job.now.nets c.in-Some.c no_net ≡ (here c).net
stands c =
    let s = c.args.job.now in
    let below : c.in-Some.c < length (take s.nnets s.nets) = (here c).below in
    sym (get_or-take s.nnets s.nets c.in-Some.c no_net (omega (arith, below, length-take s.nnets s.nets))) ∙ (here c).stored no_net

pub loop-j-init : goal.loop-j-init
loop-j-init c = walking_start _ _ _

pub offset_bounds-job-c : goal.offset_bounds-job-c
offset_bounds-job-c c = let i = in_nets (goal.at.offset_bounds-job-c c).In-Some in omega arith

pub bounds-job-c : goal.bounds-job-c
bounds-job-c c = in_nets (goal.at.bounds-job-c c).In-Some

pub invariant_of-net : goal.invariant_of-net
invariant_of-net c =
    let place = (goal.at.invariant_of-net c).In-Some in
    record { board_in_range = c.requires.accepted_job.board_range; net_in_range = rw (stands place) (here place).accepted.in_range }

pub offset_bounds-p-c : goal.offset_bounds-p-c
offset_bounds-p-c c = let i = in_nets (goal.at.offset_bounds-p-c c).In-Some in omega arith

pub bounds-p-c : goal.bounds-p-c
bounds-p-c c = in_nets (goal.at.bounds-p-c c).In-Some

pub overflow_add-bottom : goal.overflow_add-bottom
overflow_add-bottom c =
    let place = (goal.at.overflow_add-bottom c).In-Some in
    let rows = c.needed.ensures ∙ ap (needed c.args.job.now.board) (stands place) in
    omega (arith, rows, (here place).room, c.requires.accepted_job.board_range.rows_range)

pub overflow_add-j : goal.overflow_add-j
overflow_add-j c =
    let place = (goal.at.overflow_add-j c).In-Some in
    let rows = c.needed.ensures ∙ ap (needed c.args.job.now.board) (stands place) in
    omega (arith, rows, (here place).room, c.requires.accepted_job.board_range.rows_range)

pub loop-j-smaller-in-Some : goal.loop-j-smaller-in-Some
loop-j-smaller-in-Some c =
    let place = (goal.at.loop-j-smaller-in-Some c).In-Some in
    let rows = c.needed.ensures ∙ ap (needed c.args.job.now.board) (stands place) in
    omega (arith, rows, (here place).room, needed_pos c.args.job.now.board (here place).net)

pub loop-j-preserved-in-Some : goal.loop-j-preserved-in-Some
loop-j-preserved-in-Some c =
    let place = (goal.at.loop-j-preserved-in-Some c).In-Some in
    let k = here place in
    let e : c.loop-j.j + c.needed.result - 1 + 1 ≡ c.loop-j.j + c.needed.result = omega (arith, c.loop-j.invariant.low) in
    rw e
    (walking_some (job_of c.args.job.now) c.args.track.0 _ c.loop-j.p c.loop-j.j _ k _ _ c.loop-j.invariant c.loop-j-test.true
    (c.shortest-shape.ensures ∙ ap (shortest c.args.job.now.board) (stands place)) (c.needed.ensures ∙ ap (needed c.args.job.now.board) (stands place)))

pub loop-j-preserved : goal.loop-j-preserved
loop-j-preserved c =
    let inv = c.loop-j.invariant in
    walking_none _ _ _ _ _ inv c.loop-j-test.true
    (row_none (job_of c.args.job.now) c.requires.accepted_job c.args.track.0 c.args.plan.now c.requires.plan_value c.loop-j.j inv.low c.loop-j-test.true
    c.in_default.not-Some)

pub returns : goal.returns
returns c =
    walking_end (job_of c.args.job.now) c.requires.accepted_job c.args.track.0 c.args.p.now c.args.plan.now c.requires.on_turn c.requires.plan_value c.loop-j.p
    c.loop-j.j c.loop-j.invariant c.loop-j-test.false
