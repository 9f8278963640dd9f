-- `toptable::put_all_tops` meets its contract: one more slot of the table is what the net's eligibility says. Assumes nothing.
use Prim.Native.Nat.{ℕ, ◌+◌, ◌<◌}
use mathlib.Core.Path.{◌≡◌, ap, ◌∙◌}
use native.Mathlib.Omega.{arith}
use lib.ListN.{length, get_or, set}
use borrow.Author.Rules.{rules}
use Rattle.std.specs.Prelude.{Bool, List, Option, None}
use Rattle.std.proofs.lemmas.Grind.{common_steps}
use Rattle.board.specs.Stored.{no_net}
use Rattle.candidates.specs.Placed.{eligible_at}
use Rattle.candidates.specs.declared.NetTops.{NetTops}
use Rattle.toptable.specs.TopsTable.{tops_if}
use Rattle.toptable.proofs.put_all_tops.Goals as goal

one_more : (f : ℕ → Option NetTops) (table : List (Option NetTops)) (i : ℕ) (v : Option NetTops) → i < length table → v ≡ f i →
    ((k : ℕ) → k < i → get_or table k None ≡ f k) → (k : ℕ) → k < i + 1 → get_or (set table i v) k None ≡ f k
one_more f table i v room e before k h = grind (arith, common_steps)

pub loop-i-preserved : goal.loop-i-preserved
loop-i-preserved c =
    let a = c.args in
    let l = c.loop-i in
    let f = λ (k : ℕ). tops_if (eligible_at (get_or a.before.now k None) a.stands.now k) a.board (get_or a.nets.now k no_net) in
    let here = c.tops_if.ensures ∙ ap (λ (e : Bool). tops_if e a.board (get_or a.nets.now l.i no_net)) c.is_eligible-eligible.ensures in record {
      same_length = search rules;
      passed = one_more f l.table l.i c.tops_if.result (omega (arith, l.invariant.same_length)) here l.invariant.passed;
    }
