-- `router::route` meets its contract: a refusal is that of read, and elsewhere the layout of the job read is copied. Assumes nothing.
use mathlib.Core.Path.{refl}
use Rattle.std.proofs.lemmas.Result.{err_from_is_err_and}
use Rattle.jobfile.proofs.Accepts.{read_accepted}
use Rattle.routing.specs.Route.{route_text}
use Rattle.answers.proofs.Answering.{refused_given, accepted_given}
use Rattle.router.proofs.Answering.{promised}
use Rattle.router.proofs.route.Goals as goal

pub returns-in_err-accepted : goal.returns-in_err-accepted
returns-in_err-accepted c =
    let file = c.args.job.now in
    let before = c.args.out.now in
    let p = err_from_is_err_and c.from_residual.result c.from_residual.ensures.1 in
    rw (p.1, p.2) (promised file before (refused_given route_text file before _ c.in_err-accepted.ensures))

pub put_layout-requires : goal.put_layout-requires
put_layout-requires c = let file = c.args.job.now in read_accepted file _ c.in_ok-accepted.ensures

pub returns : goal.returns
returns c =
    let file = c.args.job.now in
    let before = c.args.out.now in
    let w = c.put_layout.ensures in
    promised file before (accepted_given route_text file before _ c.in_ok-accepted.ensures refl (w.answer, w.buffer))
