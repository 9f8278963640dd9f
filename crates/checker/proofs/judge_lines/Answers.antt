-- `checker::judge_lines` meets its contract: before each turn of the loop the lines that are left decide. Assumes nothing.
use Prim.Native.Nat.{ℕ, ◌+◌}
use mathlib.Core.Path.{◌≡◌, sym, ap, subst, ◌∙◌}
use native.Mathlib.Omega.{arith}
use lib.ListN.{length}
use borrow.Author.Rules.{rules}
use Rattle.std.specs.Prelude.{Ok, Err}
use Rattle.std.proofs.lemmas.Result.{err_from_is_err_and}
use Rattle.board.specs.declared.Track.{Track}
use Rattle.lines.specs.Stepped.{Stepped}
use Rattle.judging.specs.Judged.{KeepsStep}
use Rattle.judging.specs.Values.{track_of, MapOf}
use Rattle.drc.specs.Pass.{pass_step}
use Rattle.layoutsteps.specs.LayoutSteps.{line_read, form_number}
use Rattle.layoutsteps.proofs.NetsFound.{FoundAt, found_at}
use Rattle.checker.specs.declared.CheckError.TheVariants.{Broken}
use Rattle.checker.proofs.LayoutLeft.{line_of, left_start, left_moved, left_line, left_broken, left_more, left_over, answer_broken, answer_end}
use Rattle.checker.proofs.judge_lines.Goals as goal
use Rattle.checker.proofs.judge_lines.Goals.{In-Some, After-find_net-found, After-take_line-led}

-- the step over the line that was read
moved_at : (c : In-Some) → Stepped c.args.text.now c.loop-read.place (line_of c.in-Some.read)
moved_at c = left_moved _ _ _ _ _ _ c.loop-read.invariant _ c.in-Some.ensures

-- its net
looked : (c : After-find_net-found) → FoundAt c.args.tables.job.now (form_number c.in-Some.read.form) c.find_net-found.result
looked c = found_at c.args.tables.job.now _ c.find_net-found.result c.find_net-found.ensures

-- what it leads to
led_at : (c : After-take_line-led) → FoundAt c.args.tables.job.now (form_number c.in-Some.read.form) c.find_net-found.result →
    KeepsStep c.args.tables.job.now
    (pass_step c.args.tables.job.now (c.loop-read.place.passed + 1) c.loop-read.invariant.state
    (line_read c.args.text.now c.in-Some.read.from c.in-Some.read.to c.in-Some.read.next.at))
    c.take_line-led.result c.take_line-led.new.stands
led_at c f =
    let w = c.loop-read.invariant in
    c.take_line-led.ensures.keeps_step c.args.tables.job.now w.state _ c.board-board.ensures.accepted (sym c.board-board.ensures.board)
    (ap length (sym c.nets-count.ensures.nets)) f.of_job (left_line _ _ _ _ _ _ w _ c.in-Some.ensures) w.map w.keeps

pub loop-read-init : goal.loop-read-init
loop-read-init c =
    left_start c.args.tables.job.now c.args.text.now _ _ c.args.tables.nets_count c.block_map-map.ensures
    c.start-place.ensures.0 c.start-place.ensures.1

pub slice_bounds-s-count : goal.slice_bounds-s-count
slice_bounds-s-count c =
    let here = goal.at.slice_bounds-s-count c in
    let t = moved_at here.In-Some in omega arith

pub slice_bounds-s-start : goal.slice_bounds-s-start
slice_bounds-s-start c =
    let here = goal.at.slice_bounds-s-start c in
    let t = moved_at here.In-Some in omega arith

pub slice_bounds-s-end : goal.slice_bounds-s-end
slice_bounds-s-end c =
    let here = goal.at.slice_bounds-s-end c in
    let t = moved_at here.In-Some in omega arith

pub take_line-led-requires-clause-found_on_board : goal.take_line-led-requires-clause-found_on_board
take_line-led-requires-clause-found_on_board c =
    let here = goal.at.take_line-led-requires-clause-found_on_board c in
    rw c.board-board.ensures.board (looked here.After-find_net-found).on_board

pub take_line-led-requires-clause-line_of_form : goal.take_line-led-requires-clause-line_of_form
take_line-led-requires-clause-line_of_form c =
    let here = goal.at.take_line-led-requires-clause-line_of_form c in
    record {
      line = _;
      line_is = left_line _ _ _ _ _ _ c.loop-read.invariant _ c.in-Some.ensures;
      number_is = (looked here.After-find_net-found).number_is;
    }

pub returns-in_err-m : goal.returns-in_err-m
returns-in_err-m c =
    let here = goal.at.returns-in_err-m c in
    let broken : (l : ℕ) × (c.take_line-led.result ≡ Err l) × (c.in_err-m.field-0.0 ≡ Broken l) = search rules in
    let led = rw broken.1 at (led_at here.After-take_line-led (looked here.After-find_net-found)) in
    let p = err_from_is_err_and c.from_residual.result c.from_residual.ensures.1 in
    rw (p.1, p.2, broken.2)
    (answer_broken c.args.tables.job.now _ broken.0 (left_broken _ _ _ _ _ _ c.loop-read.invariant _ c.in-Some.ensures broken.0 _ led))

pub loop-read-smaller-then-track-above : goal.loop-read-smaller-then-track-above
loop-read-smaller-then-track-above c =
    let here = goal.at.loop-read-smaller-then-track-above c in
    let t = moved_at here.In-Some in
    omega (arith, t.ahead, t.within)

pub loop-read-preserved-then-track-above : goal.loop-read-preserved-then-track-above
loop-read-preserved-then-track-above c =
    let here = goal.at.loop-read-preserved-then-track-above c in
    let went : c.take_line-led.result ≡ Ok c.in_ok-m.m = search rules in
    left_more _ _ _ _ _ _ c.loop-read.invariant _ c.in-Some.ensures _ _ _
    (rw went at (led_at here.After-take_line-led (looked here.After-find_net-found)))
    (subst (λ (t : Track). MapOf c.args.tables.job.now t.0 c.block_map-map-then-track-above.result.words) c.track-track.ensures c.block_map-map-then-track-above.ensures)

pub loop-read-smaller : goal.loop-read-smaller
loop-read-smaller c =
    let here = goal.at.loop-read-smaller c in
    let t = moved_at here.In-Some in
    omega (arith, t.ahead, t.within)

pub loop-read-preserved : goal.loop-read-preserved
loop-read-preserved c =
    let here = goal.at.loop-read-preserved c in
    let w = c.loop-read.invariant in
    let went : c.take_line-led.result ≡ Ok c.in_ok-m.m = search rules in
    let same : (track_of c.loop-read.m).0 ≡ (track_of c.in_ok-m.m).0 = ap (λ (t : Track). t.0) (sym c.track-above.ensures) ∙ sym c.if-track-above.false ∙ ap (λ (t : Track). t.0) c.track-track.ensures in
    left_more _ _ _ _ _ _ w _ c.in-Some.ensures _ _ _
    (rw went at (led_at here.After-take_line-led (looked here.After-find_net-found)))
    (subst (λ (t : ℕ). MapOf c.args.tables.job.now t c.loop-read.map.words) same w.map)

pub returns : goal.returns
returns c =
    let w = c.loop-read.invariant in
    c.finish.ensures c.args.tables.job.now w.state _ w.keeps ∙
    answer_end c.args.tables.job.now _ _ (left_over _ _ _ _ _ _ w (sym c.in_default.is ∙ c.line_at.ensures))
