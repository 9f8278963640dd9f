-- `reader::accept` meets its contract. Assumes nothing.
use Rattle.std.proofs.lemmas.Result.{err_from_is_err_and}
use Rattle.jobfile.proofs.Returned.{given_stored, given_read, given_refused}
use Rattle.reader.proofs.accept.Goals as goal

pub returns-in_err-stored : goal.returns-in_err-stored
returns-in_err-stored c =
    let p = err_from_is_err_and c.from_residual.result c.from_residual.ensures.1 in
    rw (p.1, p.2) (given_refused _ _ c.in_err-stored.ensures.answer)

pub new-requires : goal.new-requires
new-requires c = given_stored _ _ c.in_ok-stored.ensures.answer

pub returns : goal.returns
returns c = rw c.new.ensures (given_read _ _ c.in_ok-stored.ensures.answer)
