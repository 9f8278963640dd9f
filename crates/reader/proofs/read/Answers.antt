-- `reader::read` meets its contract: the length is tested first. Assumes nothing.
use mathlib.Core.Path.{ap, ◌∙◌}
use Rattle.std.proofs.lemmas.Result.{err_from_is_err_and}
use Rattle.jobfile.specs.Answers.{answer_of}
use Rattle.jobfile.proofs.Returned.{right_answer}
use Rattle.reader.proofs.Reading.{too_long, not_too_long}
use Rattle.reader.proofs.read.Goals as goal

pub returns-then-text-gt64000 : goal.returns-then-text-gt64000
returns-then-text-gt64000 c =
    let r = right_answer _ _ (too_long _ c.if-text-gt64000.true) in
    record { answer = r.0; right = r.1 }

pub returns-in_err-read_lines : goal.returns-in_err-read_lines
returns-in_err-read_lines c =
    let p = err_from_is_err_and c.from_residual.result c.from_residual.ensures.1 in
    let r = right_answer _ _ (c.in_err-read_lines.ensures ∙ ap answer_of (not_too_long _ c.if-text-gt64000.false)) in
    rw (p.1, p.2) (record { answer = r.0; right = r.1 })

pub returns : goal.returns
returns c =
    let r = right_answer _ _ (c.in_ok-read_lines.ensures ∙ ap answer_of (not_too_long _ c.if-text-gt64000.false)) in
    record { answer = r.0; right = r.1 }
