-- `blockmap::no_rows` meets its contract: words of zeros have no row set. Assumes nothing.
use mathlib.Core.Path.{refl}
use Rattle.blockmap.proofs.RowBits.{none_set}
use Rattle.blockmap.proofs.no_rows.Goals as goal

pub returns : goal.returns
returns c = (refl, none_set 16)
