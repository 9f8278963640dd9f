-- `verdicts::put_broken` meets its contract: three parts, one behind another. Assumes nothing.
use mathlib.Core.List.{◌∷◌}
use native.Mathlib.Omega.{arith}
use lib.ListN.{length-append}
use Rattle.text.specs.Digits.{digits}
use Rattle.text.proofs.Writing.{kept, chain}
use Rattle.verdicts.proofs.Lines.{broken_head, broken_parts, broken_length}
use Rattle.verdicts.proofs.put_broken.Goals as goal

pub put_bytes_at-requires : goal.put_bytes_at-requires
put_bytes_at-requires c =
    let a = c.args in
    let l = broken_length a.line in
    let y = chain c.put_bytes-at.ensures c.put_spaced-at.ensures in
    let m = length-append broken_head (32 ∷ digits a.line) in
    omega (arith, y.used, kept y (omega arith))

pub returns : goal.returns
returns c =
    let y = chain c.put_bytes-at.ensures c.put_spaced-at.ensures in
    rw (broken_parts c.args.line) (chain y c.put_bytes_at.ensures)
