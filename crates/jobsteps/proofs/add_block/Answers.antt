-- `jobsteps::add_block` meets its contract. Assumes nothing.
use mathlib.Core.Path.{refl}
use Rattle.std.proofs.lemmas.Result.{err_from_is_err_and}
use Rattle.jobsteps.proofs.Adding.{block_refused, block_added}
use Rattle.jobsteps.proofs.add_block.Goals as goal

pub returns-in_err-block_outcome : goal.returns-in_err-block_outcome
returns-in_err-block_outcome c =
    let q = err_from_is_err_and c.from_residual.result c.from_residual.ensures.1 in
    record {
      taken = λ f nets p. rw (q.1, q.2) (block_refused _ _ f _ _ c.in_err-block_outcome.ensures.outcome _ refl);
      kept = rw q.1 refl;
    }

pub bounds-job-i : goal.bounds-job-i
bounds-job-i c = c.in_ok-block_outcome.ensures.fits

pub returns : goal.returns
returns c =
    record {
      taken = λ f nets p. block_added _ _ f _ _ c.in_ok-block_outcome.ensures.outcome refl nets p;
      kept = tt;
    }
