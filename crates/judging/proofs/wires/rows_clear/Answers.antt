-- `judging::wires::rows_clear` meets its contract. Assumes nothing.
use Prim.Native.Nat.{ℕ, ◌+◌}
use mathlib.Core.Path.{◌≡◌, refl}
use mathlib.Core.Bool.{true, false}
use borrow.Author.Rules.{rules}
use borrow.Author.Tests.{tests}
use native.Mathlib.Omega.{arith}
use Rattle.std.proofs.lemmas.Iterator.{cases_from_all, YieldsList-from_range}
use Rattle.blockmap.specs.Bits.{is_set}
use Rattle.judging.proofs.Rows.{clear_answer}
use Rattle.judging.proofs.wires.rows_clear.Goals as goal

pub returns : goal.returns
returns c =
    let a = c.args in
    clear_answer a.words.now a.top.0 a.rows c.all.result
    (cases_from_all _ _ _ (λ (row : ℕ). is_set a.words.now row ≡ false) (λ (row : ℕ). is_set a.words.now row ≡ true) c.all.ensures.ran
    (YieldsList-from_range a.top.0 (a.top.0 + a.rows) a.rows refl (omega arith)) (λ x q k. search (rules, tests)) (λ x q k. search (rules, tests)))
