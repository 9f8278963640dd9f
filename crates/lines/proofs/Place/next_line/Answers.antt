-- `lines::Place::next_line` meets its contract: the end of the text, or a line. Assumes nothing.
use native.Mathlib.Omega.{arith}
use borrow.Author.Rules.{rules}
use Rattle.text.specs.Bytes.{is_end}
use Rattle.lines.proofs.StepAnswers.{step_end, step_line}
use Rattle.lines.proofs.Place.next_line.Goals as goal

pub returns-then-s-self : goal.returns-then-s-self
returns-then-s-self c = step_end c.args.s.now c.args.self (omega arith)

pub returns : goal.returns
returns c =
    let s = c.args.s.now in
    let p = c.args.self in
    step_line s p c.scan_to-to.result c.min-at.result (omega arith) (c.scan_to-to.ensures.exact is_end (search rules)) (omega arith)
