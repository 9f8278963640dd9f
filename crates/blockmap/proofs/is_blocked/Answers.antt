-- `blockmap::is_blocked` meets its contract: the word, shifted and masked, is the bit of the row. Assumes nothing.
use native.Mathlib.Omega.{arith}
use Rattle.blockmap.proofs.RowBits.{row_tested}
use Rattle.blockmap.proofs.is_blocked.Goals as goal

pub returns : goal.returns
returns c = row_tested c.args.words.now c.args.row.0 (omega arith)
