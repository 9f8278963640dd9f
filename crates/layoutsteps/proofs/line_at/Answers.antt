-- `layoutsteps::line_at` meets its contract: the line lies within the text. Assumes nothing.
use native.Mathlib.Omega.{arith}
use Rattle.lines.proofs.Steps.{stepped}
use Rattle.layoutsteps.proofs.line_at.Goals as goal

pub slice_bounds-read_layout_line-count : goal.slice_bounds-read_layout_line-count
slice_bounds-read_layout_line-count c =
    let t = stepped _ _ _ c.in_ok-line.ensures in
    omega arith

pub slice_bounds-read_layout_line-start : goal.slice_bounds-read_layout_line-start
slice_bounds-read_layout_line-start c =
    let t = stepped _ _ _ c.in_ok-line.ensures in
    omega arith

pub slice_bounds-read_layout_line-end : goal.slice_bounds-read_layout_line-end
slice_bounds-read_layout_line-end c =
    let t = stepped _ _ _ c.in_ok-line.ensures in
    omega arith
