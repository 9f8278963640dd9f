-- `reader::read_lines` meets its contract. The invariant: what is held is that of the lines above, and the lines that are left decide. Assumes nothing.
use native.Mathlib.Omega.{arith}
use Rattle.std.proofs.lemmas.Result.{err_from_is_err_and}
use Rattle.jobsteps.proofs.Taking.{held_filled}
use Rattle.reader.proofs.Reading.{left_start, left_ahead, left_within, left_refused, left_taken, ends_early, ends_well}
use Rattle.reader.proofs.read_lines.Goals as goal

pub loop-form-init : goal.loop-form-init
loop-form-init c = left_start _ _ _ _ c.no_nets-nets.ensures c.requires.empty c.start-cursor.ensures.0 c.start-cursor.ensures.1

pub take_line-requires : goal.take_line-requires
take_line-requires c e = (held_filled _ _ _ c.loop-form.invariant.held e).job_is.board_range

pub returns-in_err-stage : goal.returns-in_err-stage
returns-in_err-stage c =
    let p = err_from_is_err_and c.from_residual.result c.from_residual.ensures.1 in
    rw (p.1, p.2) (left_refused _ _ _ _ _ c.loop-form.invariant _ _ c.in-Some.ensures _ (c.in_err-stage.ensures.taken c.loop-form.invariant.held))

pub loop-form-smaller : goal.loop-form-smaller
loop-form-smaller c =
    let w = c.loop-form.invariant in
    omega (arith, left_ahead _ _ _ _ _ w _ _ c.in-Some.ensures, left_within _ _ _ _ _ w _ _ c.in-Some.ensures)

pub loop-form-preserved : goal.loop-form-preserved
loop-form-preserved c = left_taken _ _ _ _ _ c.loop-form.invariant _ _ c.in-Some.ensures _ _ _ (c.in_ok-stage.ensures.taken c.loop-form.invariant.held)

pub returns-in-Closed : goal.returns-in-Closed
returns-in-Closed c = ends_well _ _ _ _ _ c.loop-form.invariant c.in_default.ensures c.in-Closed.is

pub returns-in_default-stage : goal.returns-in_default-stage
returns-in_default-stage c = ends_early _ _ _ _ _ c.loop-form.invariant c.in_default.ensures c.in_default-stage.not-Closed
