-- `wirepoints::put_pin` meets its contract: the pin, and the points behind it. Assumes nothing.
use native.Mathlib.Omega.{arith}
use Rattle.text.proofs.Writing.{lengths, kept_at, chain_at}
use Rattle.wirepoints.proofs.Parts.{pin_parts}
use Rattle.wirepoints.proofs.put_pin.Goals as goal

pub put_point-next-requires : goal.put_point-next-requires
put_point-next-requires c =
    rw c.point-pin.ensures (omega (arith, simp lengths at (rw (pin_parts c.args.l.0 c.args.points.now) at c.requires)))

pub put_path-requires : goal.put_path-requires
put_path-requires c =
    let h = simp lengths at (rw (pin_parts c.args.l.0 c.args.points.now) at c.requires) in
    let w = rw c.point-pin.ensures at c.put_point-next.ensures in
    rw c.point-pin.ensures (omega (arith, w.next, kept_at w (omega arith)))

pub returns : goal.returns
returns c =
    let h = simp lengths at (rw (pin_parts c.args.l.0 c.args.points.now) at c.requires) in
    let w = rw c.point-pin.ensures at c.put_point-next.ensures in
    rw (pin_parts c.args.l.0 c.args.points.now) (chain_at (omega arith) w (rw c.point-pin.ensures at c.put_path.ensures))
