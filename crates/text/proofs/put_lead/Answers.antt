-- `text::put_lead` meets its contract: no byte for 0, else one at the place. Assumes nothing.
use native.Mathlib.Omega.{arith}
use Rattle.text.proofs.Numbers.{lead_some}
use Rattle.text.proofs.Writing.{none_at, byte_at}
use Rattle.text.specs.Digits.{lead}
use Rattle.text.proofs.put_lead.Goals as goal

pub returns-then-n-eq0 : goal.returns-then-n-eq0
unfolding lead
returns-then-n-eq0 c = rw c.if-n-eq0.true (none_at c.args.at c.args.out.now)

pub returns : goal.returns
returns c = rw (lead_some c.args.n (omega arith)) (byte_at c.args.at c.args.out.now _ (omega arith))
