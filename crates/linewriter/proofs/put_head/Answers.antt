-- `linewriter::put_head` meets its contract: three writes in a row. Assumes nothing.
use Prim.Native.Nat.{ℕ, ◌+◌, ◌≤◌}
use mathlib.Core.List.{List, [], ◌∷◌}
use lib.ListN.{length}
use Rattle.text.specs.Digits.{digits}
use Rattle.keywords.specs.Keywords.{word_of}
use Rattle.keywords.specs.declared.Vocabulary.{Vocabulary}
use Rattle.linewriter.specs.LineText.{head_text}
use Rattle.linewriter.proofs.Parts.{head_parts}
use Rattle.linewriter.proofs.Runs.{Run, run_start, run_room, ◌then◌, run_end}
use Rattle.linewriter.proofs.put_head.Goals as goal

run : (v : Vocabulary) (i n : ℕ) {at : ℕ} {s : List ℕ} → at + length (head_text v i n) ≤ length s →
    Run at (head_text v i n) ((32 ∷ 40 ∷ []) ∷ word_of v i ∷ (32 ∷ digits n) ∷ []) s s at
run v i n h = run_start _ (head_parts v i n) h

pub put_bytes_at-a-requires : goal.put_bytes_at-a-requires
put_bytes_at-a-requires c = run_room (run c.args.v c.args.i c.args.number c.requires.1)

pub put_word_at-b-requires : goal.put_word_at-b-requires
put_word_at-b-requires c = (c.requires.0, run_room (run c.args.v c.args.i c.args.number c.requires.1 then c.put_bytes_at-a.ensures))

pub put_spaced-requires : goal.put_spaced-requires
put_spaced-requires c = run_room (run c.args.v c.args.i c.args.number c.requires.1 then c.put_bytes_at-a.ensures then c.put_word_at-b.ensures)

pub returns : goal.returns
returns c =
    run_end (run c.args.v c.args.i c.args.number c.requires.1 then c.put_bytes_at-a.ensures then c.put_word_at-b.ensures then c.put_spaced.ensures)
