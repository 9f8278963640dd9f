-- `text::put_spaced` meets its contract: a byte at the place, and the digits at the next. Assumes nothing.
use native.Mathlib.Omega.{arith}
use Rattle.text.proofs.Writing.{lengths, chain_at, byte_at}
use Rattle.text.proofs.put_spaced.Goals as goal

pub put_number_at-requires : goal.put_number_at-requires
put_number_at-requires c = simp lengths (omega arith)

pub returns : goal.returns
returns c = chain_at (omega arith) (byte_at c.args.at c.args.out.now 32 (omega arith)) c.put_number_at.ensures
