-- Before each turn of the loop of `lines::scan_to` the test answered false of each byte passed.
use mathlib.Core.Bool.{false}
use Prim.Native.Nat.{ℕ, ◌-◌, ◌≤◌, ◌<◌}
use lib.ListN.{length, get_or}
use Rattle.lines.proofs.scan_to.Given as goal

abbrev pub invariant-loop-i : goal.invariant-loop-i
invariant-loop-i g l = (l.from ≤ l.i) × (l.i ≤ length l.s) × ((k : ℕ) → l.from ≤ k → k < l.i → goal.F-post g l.stops (get_or l.s k 0) false)

abbrev pub decreases-loop-i : goal.decreases-loop-i
decreases-loop-i g l = length l.s - l.i
