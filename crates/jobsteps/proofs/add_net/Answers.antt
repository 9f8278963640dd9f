-- `jobsteps::add_net` meets its contract. Assumes nothing.
use mathlib.Core.Path.{refl}
use Rattle.std.proofs.lemmas.Result.{err_from_is_err_and}
use Rattle.jobsteps.proofs.Adding.{net_refused, weighted_rows, net_added}
use Rattle.jobsteps.proofs.add_net.Goals as goal

pub returns-in_err-net_outcome : goal.returns-in_err-net_outcome
returns-in_err-net_outcome c =
    let q = err_from_is_err_and c.from_residual.result c.from_residual.ensures.1 in
    record {
      taken = λ h. rw (q.1, q.2) (net_refused _ _ _ h _ _ _ c.in_err-net_outcome.ensures.outcome _ refl);
      kept = rw q.1 (refl, refl);
    }

pub invariant_of-given-clause-net_in_range : goal.invariant_of-given-clause-net_in_range
invariant_of-given-clause-net_in_range c = c.in_ok-net_outcome.ensures.fits.1

pub bounds-job-i : goal.bounds-job-i
bounds-job-i c = c.in_ok-net_outcome.ensures.fits.0

pub with_pins-requires : goal.with_pins-requires
with_pins-requires c = rw c.with_weight-net.ensures (weighted_rows _ _ _ c.requires c.in_ok-net_outcome.ensures.fits.1)

pub returns : goal.returns
returns c =
    record {
      taken = λ h.
          rw c.with_weight-net.ensures
          (net_added _ _ _ h _ _ _ c.in_ok-net_outcome.ensures.outcome refl c.with_pins.new.used (rw (← c.with_weight-net.ensures) c.with_pins.ensures));
      kept = tt;
    }
