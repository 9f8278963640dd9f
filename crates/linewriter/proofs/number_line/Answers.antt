-- `linewriter::number_line` meets its contract: two writes in a row. Assumes nothing.
use Prim.Native.Nat.{ℕ, ◌≤◌}
use mathlib.Core.Path.{refl}
use mathlib.Core.List.{List, [], ◌∷◌}
use lib.ListN.{length}
use Rattle.text.proofs.Writing.{from_start}
use Rattle.keywords.specs.declared.Vocabulary.{Vocabulary}
use Rattle.linewriter.specs.LineText.{head_text, number_text}
use Rattle.linewriter.proofs.Runs.{Run, run_start_0, run_room, ◌then◌, run_end}
use Rattle.linewriter.proofs.number_line.Goals as goal

run : (v : Vocabulary) (i n : ℕ) {s : List ℕ} → length (number_text v i n) ≤ length s → Run 0 (number_text v i n) (head_text v i n ∷ (41 ∷ 10 ∷ []) ∷ []) s s 0
run v i n h = run_start_0 _ refl h

pub put_head-a-requires : goal.put_head-a-requires
put_head-a-requires c = (c.requires.i_bound, run_room (run c.args.v c.args.i c.args.number c.requires.line_in_bounds))

pub put_bytes_at-requires : goal.put_bytes_at-requires
put_bytes_at-requires c = run_room (run c.args.v c.args.i c.args.number c.requires.line_in_bounds then c.put_head-a.ensures)

pub returns : goal.returns
returns c = from_start (run_end (run c.args.v c.args.i c.args.number c.requires.line_in_bounds then c.put_head-a.ensures then c.put_bytes_at.ensures))
