-- `printing::put_text` meets its contract. Assumes nothing.
use Rattle.printing.proofs.Printing.{refusal_fits, report_printed, held_printed}
use Rattle.printing.proofs.put_text.Goals as goal

pub put_report-requires : goal.put_report-requires
put_report-requires g c =
    let r = c.put-answer.ensures in
    refusal_fits g.T.Operation.text g.met.T.Operation.fits _ _ c.requires r.answer r.buffer

pub returns : goal.returns
returns g c =
    let r = c.put-answer.ensures in
    let w = report_printed g.T.Operation.text g.met.T.Operation.fits _ _ c.requires r.answer r.buffer c.put_report.ensures in
    record { printed = w; promised = held_printed g.T.Operation.text _ _ w g.T.Operation.Promised g.met.T.Operation.kept }
