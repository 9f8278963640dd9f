-- `texts::text_end` meets its contract. Assumes nothing.
use mathlib.Core.Path.{◌≡◌}
use mathlib.Core.Bool.{Bool}
use mathlib.Core.List.{List}
use Prim.Native.Nat.{ℕ, ◌≤◌}
use native.Mathlib.Omega.{arith}
use borrow.Author.Rules.{rules}
use lib.ListN.{length, drop_of_length-le}
use Rattle.lines.specs.Places.{until, scan}
use Rattle.texts.specs.Ends.{ends_text}
use Rattle.texts.proofs.text_end.Goals as goal

-- behind the end of the input nothing is left to scan
scan_behind : (f : ℕ → Bool) (s : List ℕ) (from : ℕ) → length s ≤ from → from ≡ scan f s from
unfolding scan until
scan_behind f s from h = rw (drop_of_length-le s h) (omega arith)

pub returns-then-s-from : goal.returns-then-s-from
returns-then-s-from c = (scan_behind ends_text c.args.s.now c.args.from (omega arith), omega arith, omega arith)

pub returns : goal.returns
returns c =
    let w = c.scan_to.ensures.scanned in
    (c.scan_to.ensures.exact ends_text (search rules), w.ahead, omega (arith, w.within))
