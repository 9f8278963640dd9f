-- `reader::report::report` meets its contract. Assumes nothing.
use native.Mathlib.Omega.{arith}
use Rattle.reader.proofs.Reports.{report_accepted, report_room, report_refused}
use Rattle.reader.proofs.report.report.Goals as goal

pub returns-in-Ok : goal.returns-in-Ok
returns-in-Ok c = report_accepted _ _ c.in-Ok.ensures.answer c.put_bytes.ensures

pub put_refusal-requires : goal.put_refusal-requires
put_refusal-requires c = rw (c.number.ensures, c.line.ensures) (let r = report_room _ _ c.in-Err.ensures.answer in omega arith)

pub returns-in-Err : goal.returns-in-Err
returns-in-Err c = report_refused _ _ c.in-Err.ensures.answer (rw (← c.number.ensures, ← c.line.ensures) c.put_refusal.ensures)
