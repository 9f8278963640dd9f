-- `SlotArray::none` meets its contract. Assumes nothing.
use mathlib.Core.Path.{refl}
use Rattle.candidates.specs.SlotArrays.{no_values}
use Rattle.candidates.proofs.SlotArray.none.Goals as goal

pub returns : goal.returns
unfolding no_values
returns g c = record { value = c.default.result; default = c.default.ensures; is = refl }
