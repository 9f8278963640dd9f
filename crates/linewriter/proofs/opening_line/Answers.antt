-- `linewriter::opening_line` meets its contract: three writes in a row. Assumes nothing.
use Prim.Native.Nat.{ℕ, ◌≤◌}
use mathlib.Core.List.{List, [], ◌∷◌}
use lib.ListN.{length}
use Rattle.text.proofs.Writing.{from_start}
use Rattle.keywords.specs.Keywords.{word_of}
use Rattle.keywords.specs.declared.Vocabulary.{Vocabulary}
use Rattle.linewriter.specs.LineText.{opening_text}
use Rattle.linewriter.proofs.Parts.{opening_parts, some_word}
use Rattle.linewriter.proofs.Runs.{Run, run_start_0, run_room, ◌then◌, run_end}
use Rattle.linewriter.proofs.opening_line.Goals as goal

run : (v : Vocabulary) {s : List ℕ} → length (opening_text v) ≤ length s →
    Run 0 (opening_text v) ((40 ∷ []) ∷ word_of v 0 ∷ (10 ∷ []) ∷ []) s s 0
run v h = run_start_0 _ (opening_parts v) h

pub put_bytes_at-a-requires : goal.put_bytes_at-a-requires
put_bytes_at-a-requires c = run_room (run c.args.v c.requires)

pub put_word_at-b-requires : goal.put_word_at-b-requires
put_word_at-b-requires c = (some_word c.args.v, run_room (run c.args.v c.requires then c.put_bytes_at-a.ensures))

pub put_bytes_at-requires : goal.put_bytes_at-requires
put_bytes_at-requires c = run_room (run c.args.v c.requires then c.put_bytes_at-a.ensures then c.put_word_at-b.ensures)

pub returns : goal.returns
returns c = from_start (run_end (run c.args.v c.requires then c.put_bytes_at-a.ensures then c.put_word_at-b.ensures then c.put_bytes_at.ensures))
