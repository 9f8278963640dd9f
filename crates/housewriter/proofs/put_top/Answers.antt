-- `housewriter::put_top` meets its contract: three writes in a row. Assumes nothing.
use Prim.Native.Nat.{ℕ, ◌≤◌}
use mathlib.Core.List.{List, [], ◌∷◌}
use lib.ListN.{length}
use Rattle.text.proofs.Writing.{at_rest, rest_room}
use Rattle.board.specs.declared.Board.{Board}
use Rattle.keywords.specs.Keywords.{word_of}
use Rattle.linewriter.specs.LineText.{opening_text}
use Rattle.linewriter.proofs.Runs.{Run, run_start_0, run_room, ◌then◌, run_end}
use Rattle.keywords.specs.declared.Vocabulary.TheVariants.{Job}
use Rattle.house.specs.HouseText.{inner_line}
use Rattle.housewriter.specs.Parts.{top_text}
use Rattle.housewriter.proofs.Parts.{top_parts}
use Rattle.joblines.specs.Lines.{ended}
use Rattle.housewriter.proofs.put_top.Goals as goal

abbrev line : ℕ → ℕ → List ℕ
line i n = ended (inner_line (word_of Job i) (n ∷ []))

run : (b : Board) {s : List ℕ} → length (top_text b) ≤ length s → Run 0 (top_text b) (opening_text Job ∷ line 1 b.rows ∷ line 2 b.tracks ∷ []) s s 0
run b h = run_start_0 _ (top_parts b) h

pub put_opening-a-requires : goal.put_opening-a-requires
put_opening-a-requires c = run_room (run c.args.board c.requires)

pub size_line-requires-clause-number_in_bounds : goal.size_line-requires-clause-number_in_bounds
size_line-requires-clause-number_in_bounds c = rest_room _ _ (run_room (run c.args.board c.requires then c.put_opening-a.ensures))

pub size_line-requires-2-clause-number_in_bounds : goal.size_line-requires-2-clause-number_in_bounds
size_line-requires-2-clause-number_in_bounds c =
    rest_room _ _ (run_room (run c.args.board c.requires then c.put_opening-a.ensures then at_rest _ _ _ _ _ c.size_line.ensures))

pub returns : goal.returns
returns c =
    let r = run c.args.board c.requires then c.put_opening-a.ensures then at_rest _ _ _ _ _ c.size_line.ensures in
    run_end (r then at_rest _ _ _ _ _ c.size_line-2.ensures)
