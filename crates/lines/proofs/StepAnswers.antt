-- The two answers of a step over a line: the end of the text, or a line. Assumes nothing.
use mathlib.Core.Path.{◌≡◌}
use mathlib.Core.List.{List}
use Prim.Native.Nat.{ℕ, ◌+◌, ◌≤◌, ◌<◌, min}
use lib.ListN.{length}
use borrow.Author.Tests.{lt-ltb, le-ltb}
use Rattle.lines.specs.declared.Place.{Place}
use Rattle.std.specs.Prelude.{None, Some}
use Rattle.lines.specs.Places.{line_end, step_at}

pub step_end : (s : List ℕ) (p : Place) → length s ≤ p.at → None ≡ step_at s p
unfolding step_at
step_end s p h = rw (le-ltb p.at (length s) h)

pub step_line : (s : List ℕ) (p : Place) (to next : ℕ) → p.at < length s → to ≡ line_end s p.at → next ≡ min (to + 1) (length s) → Some (record { from = p.at; to = to; next = record { at = next; passed = p.passed + 1 } }) ≡ step_at s p
unfolding step_at
step_line s p to next h e f = rw (lt-ltb p.at (length s) h, f, e)
