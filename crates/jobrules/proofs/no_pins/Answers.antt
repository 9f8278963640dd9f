-- `jobrules::no_pins` meets its contract. Assumes nothing.
use Rattle.jobrules.proofs.Pins.{pins_none}
use Rattle.jobrules.proofs.no_pins.Goals as goal

pub returns : goal.returns
returns c = pins_none _ c.no_rows-left.ensures.1 c.no_rows-right.ensures.1
