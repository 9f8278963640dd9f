-- `text::put_number` meets its contract, by recursion on n: the digits of its tenth, and one more. Assumes nothing.
use native.Mathlib.Omega.{arith}
use Rattle.text.proofs.Writing.{lead_more, tenth_fits, room}
use Rattle.text.proofs.+put_number.Goals as goal

pub put_number-k-requires : goal.put_number-k-requires
put_number-k-requires t c =
    (omega arith, omega (arith, tenth_fits c.args.n c.args.out.now (omega arith) c.requires))

pub put_lead-requires : goal.put_lead-requires
put_lead-requires t c = room c.put_number-k.ensures (tenth_fits c.args.n c.args.out.now (omega arith) c.requires)

pub returns : goal.returns
returns t c = lead_more c.args.n (omega arith) c.put_number-k.ensures c.put_lead.ensures
