-- `checker::check` meets its contract: refused as read does, then by length, then the verdict. Assumes nothing.
use mathlib.Core.Path.{ap, ◌∙◌}
use native.Mathlib.Omega.{arith}
use Rattle.std.proofs.lemmas.Result.{err_from_is_err_and}
use Rattle.drc.proofs.OnePass.{one_pass}
use Rattle.jobfile.specs.Read.{read_job}
use Rattle.jobfile.proofs.Accepts.{read_accepted}
use Rattle.checker.specs.Answers.{verdict_answer}
use Rattle.checker.proofs.Answering.{answer_refused, answer_long, answer_judged}
use Rattle.checker.proofs.CheckRight.{right_verdict}
use Rattle.checker.proofs.check.Goals as goal

pub returns-in_err-accepted : goal.returns-in_err-accepted
returns-in_err-accepted c =
    let a = c.args in
    let p = err_from_is_err_and c.from_residual.result c.from_residual.ensures.1 in
    let r = right_verdict a.job.now a.layout.now _
    (answer_refused (read_job a.job.now) a.layout.now _ c.in_err-accepted.ensures) in
    rw (p.1, p.2) (record { answer = r.0; values = r.1.0; right = r.1.1 })

pub returns-then-layout-gt64000 : goal.returns-then-layout-gt64000
returns-then-layout-gt64000 c =
    let a = c.args in
    let r = right_verdict a.job.now a.layout.now _
    (answer_long (read_job a.job.now) a.layout.now _ c.in_ok-accepted.ensures (omega arith)) in
    record { answer = r.0; values = r.1.0; right = r.1.1 }

pub returns : goal.returns
returns c =
    let a = c.args in
    let e = c.in_ok-accepted.ensures in
    let judged = c.judge_lines.ensures ∙ ap verdict_answer (one_pass _ (read_accepted a.job.now _ e) a.layout.now) in
    let r = right_verdict a.job.now a.layout.now _ (answer_judged (read_job a.job.now) a.layout.now _ _ e (omega arith) judged) in
    record { answer = r.0; values = r.1.0; right = r.1.1 }
