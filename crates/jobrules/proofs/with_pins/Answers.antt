-- `jobrules::with_pins` meets its contract. Assumes nothing.
use Rattle.jobrules.proofs.Pins.{pins_more}
use Rattle.jobrules.proofs.with_pins.Goals as goal

pub returns : goal.returns
returns c = λ nets p. pins_more nets _ _ _ c.with_row-used.ensures c.with_row-used-2.ensures p
