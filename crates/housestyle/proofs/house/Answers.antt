-- `housestyle::house` meets its contract: a refusal is that of read, and elsewhere the fixed text of the job read is copied. Assumes nothing.
use native.Mathlib.Omega.{arith}
use Rattle.std.proofs.lemmas.Result.{err_from_is_err_and}
use Rattle.text.proofs.Writing.{start_written}
use Rattle.jobfile.proofs.Accepts.{read_accepted}
use Rattle.house.specs.HouseText.{house_text}
use Rattle.house.proofs.HouseRead.{house_length}
use Rattle.answers.proofs.Answering.{refused_given, accepted_given}
use Rattle.housestyle.proofs.Answering.{promised}
use Rattle.housestyle.proofs.house.Goals as goal

pub returns-in_err-accepted : goal.returns-in_err-accepted
returns-in_err-accepted c =
    let file = c.args.job.now in
    let before = c.args.out.now in
    let p = err_from_is_err_and c.from_residual.result c.from_residual.ensures.1 in
    rw (p.1, p.2) (promised file before (refused_given house_text file before _ c.in_err-accepted.ensures))

pub write_house-needed-requires : goal.write_house-needed-requires
write_house-needed-requires c =
    let file = c.args.job.now in
    omega (arith, house_length _ (read_accepted file _ c.in_ok-accepted.ensures))

pub returns : goal.returns
returns c =
    let file = c.args.job.now in
    let before = c.args.out.now in
    let e = c.in_ok-accepted.ensures in
    let w = c.put_answer.ensures in
    promised file before (accepted_given house_text file before _ e (start_written c.write_house-needed.ensures) (w.answer, w.buffer))
