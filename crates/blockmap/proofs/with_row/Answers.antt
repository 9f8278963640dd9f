-- `blockmap::with_row` meets its contract: the row's bit is set in its word, and every other bit stays. Assumes nothing.
use mathlib.Core.Path.{◌≡◌}
use native.Mathlib.Omega.{arith}
use lib.ListN.{length}
use borrow.Author.Rules.{rules}
use Rattle.blockmap.proofs.RowBits.{with_bit, row_set}
use Rattle.blockmap.proofs.with_row.Goals as goal

pub returns : goal.returns
unfolding with_bit
returns c k =
    let words = c.args.map.words in
    let len : length words ≡ 16 = search rules in
    row_set words c.args.row.0 (omega arith) (omega arith) k
