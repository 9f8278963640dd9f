-- `reader::cursor::Cursor::next` meets its contract: the form of the line here, and the place behind it. Assumes nothing.
use mathlib.Core.Path.{ap}
use native.Mathlib.Omega.{arith}
use Rattle.lines.proofs.Steps.{stepped}
use Rattle.reader.specs.Cursors.{form_on, form_step}
use Rattle.reader.proofs.cursor.Cursor.next.Goals as goal

pub returns-in_err-line : goal.returns-in_err-line
unfolding form_step form_on
returns-in_err-line c = rw c.from_residual.ensures (ap (form_on _) c.in_err-line.ensures)

pub slice_bounds-read_form-count : goal.slice_bounds-read_form-count
slice_bounds-read_form-count c = let t = stepped _ _ _ c.in_ok-line.ensures in omega arith

pub slice_bounds-read_form-start : goal.slice_bounds-read_form-start
slice_bounds-read_form-start c = let t = stepped _ _ _ c.in_ok-line.ensures in omega arith

pub slice_bounds-read_form-end : goal.slice_bounds-read_form-end
slice_bounds-read_form-end c = let t = stepped _ _ _ c.in_ok-line.ensures in omega arith

pub returns : goal.returns
unfolding form_step form_on
returns c = rw c.read_form-form.ensures (ap (form_on _) c.in_ok-line.ensures)
