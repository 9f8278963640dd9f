-- `jobsteps::no_nets` meets its contract. Assumes nothing.
use mathlib.Core.Path.{refl}
use Rattle.jobfile.specs.Read.{last_number}
use Rattle.jobsteps.proofs.no_nets.Goals as goal

pub returns : goal.returns
unfolding last_number
returns c = record { last_is = refl; pins = c.no_pins-used.ensures }
