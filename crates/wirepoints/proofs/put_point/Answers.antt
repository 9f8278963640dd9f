-- `wirepoints::put_point` meets its contract: four writes in a row. Assumes nothing.
use native.Mathlib.Omega.{arith}
use Rattle.text.proofs.Writing.{lengths, kept_at, chain_at}
use Rattle.wirepoints.proofs.Parts.{point_parts, point_length}
use Rattle.wirepoints.proofs.put_point.Goals as goal

pub put_bytes_at-a-requires : goal.put_bytes_at-a-requires
put_bytes_at-a-requires c = omega (arith, point_length c.args.p)

pub put_number_at-b-requires : goal.put_number_at-b-requires
put_number_at-b-requires c =
    let l = point_length c.args.p in
    let w = c.put_bytes_at-a.ensures in
    omega (arith, w.next, kept_at w (omega arith))

pub put_spaced-c-requires : goal.put_spaced-c-requires
put_spaced-c-requires c =
    let l = point_length c.args.p in
    let w = chain_at (omega arith) c.put_bytes_at-a.ensures c.put_number_at-b.ensures in
    omega (arith, simp lengths at w.next, kept_at w (simp lengths (omega arith)))

pub put_bytes_at-requires : goal.put_bytes_at-requires
put_bytes_at-requires c =
    let l = point_length c.args.p in
    let v = chain_at (omega arith) c.put_bytes_at-a.ensures c.put_number_at-b.ensures in
    let w = chain_at (simp lengths (omega arith)) v c.put_spaced-c.ensures in
    omega (arith, simp lengths at w.next, kept_at w (simp lengths (omega arith)))

pub returns : goal.returns
returns c =
    let l = point_length c.args.p in
    let v = chain_at (omega arith) c.put_bytes_at-a.ensures c.put_number_at-b.ensures in
    let w = chain_at (simp lengths (omega arith)) v c.put_spaced-c.ensures in
    rw (point_parts c.args.p) (chain_at (simp lengths (omega arith)) w c.put_bytes_at.ensures)
