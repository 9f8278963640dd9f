-- The loop of `reader::read_lines`: what is held is that of the lines above, and the lines that are left decide.
use Prim.Native.Nat.{◌-◌}
use lib.ListN.{length}
use Rattle.reader.proofs.Reading.{LinesLeft}
use Rattle.reader.proofs.read_lines.Given as goal

abbrev pub invariant-loop-form : goal.invariant-loop-form
invariant-loop-form l = LinesLeft l.text l.stage l.nets l.slots l.cursor

abbrev pub decreases-loop-form : goal.decreases-loop-form
decreases-loop-form l = length l.text - l.cursor.place.at
