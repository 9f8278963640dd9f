-- `reader::report::put_refusal` meets its contract: four parts, one behind another. Assumes nothing.
use mathlib.Core.List.{◌∷◌, ◌++◌}
use lib.ListN.{length-append}
use Rattle.text.specs.Digits.{digits}
use Rattle.text.proofs.Writing.{kept, chain}
use Rattle.reader.proofs.Reports.{head, refused_parts, refused_length}
use native.Mathlib.Omega.{arith}
use Rattle.reader.proofs.report.put_refusal.Goals as goal

pub put_bytes-at-requires : goal.put_bytes-at-requires
put_bytes-at-requires c = omega (arith, refused_length c.args.number c.args.line)

pub put_spaced-at-requires : goal.put_spaced-at-requires
put_spaced-at-requires c =
    let a = c.args in
    let l = refused_length a.number a.line in
    let w = c.put_bytes-at.ensures in
    omega (arith, w.used, kept w (omega arith))

pub put_spaced-at-requires-2 : goal.put_spaced-at-requires-2
put_spaced-at-requires-2 c =
    let a = c.args in
    let l = refused_length a.number a.line in
    let x = chain c.put_bytes-at.ensures c.put_spaced-at.ensures in
    let m = length-append head (32 ∷ digits a.number) in
    omega (arith, x.used, kept x (omega arith))

pub put_bytes_at-requires : goal.put_bytes_at-requires
put_bytes_at-requires c =
    let a = c.args in
    let l = refused_length a.number a.line in
    let y = chain (chain c.put_bytes-at.ensures c.put_spaced-at.ensures) c.put_spaced-at-2.ensures in
    let m = length-append head (32 ∷ digits a.number) in
    let n = length-append (head ++ (32 ∷ digits a.number)) (32 ∷ digits a.line) in
    omega (arith, y.used, kept y (omega arith))

pub returns : goal.returns
returns c =
    let a = c.args in
    let y = chain (chain c.put_bytes-at.ensures c.put_spaced-at.ensures) c.put_spaced-at-2.ensures in
    rw (refused_parts a.number a.line) (chain y c.put_bytes_at.ensures)
