-- `joblines::put_two` meets its contract: two writes in a row. Assumes nothing.
use mathlib.Core.Path.{refl}
use mathlib.Core.List.{List, [], ◌∷◌}
use Prim.Native.Nat.{ℕ, ◌+◌, ◌≤◌}
use lib.ListN.{length}
use Rattle.text.specs.Digits.{digits}
use Rattle.linewriter.proofs.Runs.{Run, run_start, run_room, ◌then◌, run_end}
use Rattle.joblines.specs.Lines.{two_text}
use Rattle.joblines.proofs.put_two.Goals as goal

run : (a b : ℕ) {at : ℕ} {s : List ℕ} → at + length (two_text a b) ≤ length s → Run at (two_text a b) ((32 ∷ digits a) ∷ (32 ∷ digits b) ∷ []) s s at
run a b h = run_start _ refl h

pub put_spaced-next-requires : goal.put_spaced-next-requires
put_spaced-next-requires c = run_room (run c.args.a c.args.b c.requires)

pub put_spaced-requires : goal.put_spaced-requires
put_spaced-requires c = run_room (run c.args.a c.args.b c.requires then c.put_spaced-next.ensures)

pub returns : goal.returns
returns c = run_end (run c.args.a c.args.b c.requires then c.put_spaced-next.ensures then c.put_spaced.ensures)
