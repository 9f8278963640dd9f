-- `verdicts::put_verdict` meets its contract. Assumes nothing.
use native.Mathlib.Omega.{arith}
use Rattle.text.proofs.Numbers.{length_digits}
use Rattle.reader.proofs.Reports.{refused_length}
use Rattle.verdicts.specs.Verdicts.{verdict_line}
use Rattle.verdicts.proofs.Lines.{broken_length, refused_is, written_as}
use Rattle.verdicts.proofs.put_verdict.Goals as goal

pub returns-in_default : goal.returns-in_default
unfolding verdict_line
returns-in_default c = rw c.in_default.is c.put_bytes.ensures

pub put_broken-requires : goal.put_broken-requires
put_broken-requires c = let l = c.in-Broken.line in omega (arith, broken_length l, length_digits 19 l (omega arith))

pub returns-in-Broken : goal.returns-in-Broken
unfolding verdict_line
returns-in-Broken c = rw (c.in-Err.is, c.in-Broken.is) c.put_broken.ensures

pub put_refusal-requires : goal.put_refusal-requires
put_refusal-requires c =
    let n = c.number.result in
    let l = c.line.result in
    omega (
      arith,
      refused_length n l,
      length_digits 19 n (omega (arith, c.number.type_inv)),
      length_digits 19 l (omega (arith, c.line.type_inv)),
    )

pub returns-in_default-error : goal.returns-in_default-error
returns-in_default-error c =
    rw c.in-Err.is (written_as (refused_is _ c.in_default-error.not-Broken c.number.ensures c.line.ensures) c.put_refusal.ensures)
