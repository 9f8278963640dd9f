-- `joblines::block_line` meets its contract: three writes in a row. Assumes nothing.
use Prim.Native.Nat.{ℕ, ◌≤◌}
use mathlib.Core.List.{List, [], ◌∷◌}
use native.Mathlib.Omega.{arith}
use lib.ListN.{length}
use Rattle.board.specs.declared.Block.{Block}
use Rattle.text.proofs.Writing.{from_start}
use Rattle.linewriter.specs.LineText.{head_text}
use Rattle.linewriter.proofs.Runs.{Run, run_start_0, run_room, ◌then◌, run_end}
use Rattle.keywords.specs.declared.Vocabulary.TheVariants.{Job}
use Rattle.house.specs.HouseText.{block_line}
use Rattle.joblines.specs.Lines.{ended, two_text}
use Rattle.joblines.proofs.Lines.{block_parts}
use Rattle.joblines.proofs.block_line.Goals as goal

run : (b : Block) {s : List ℕ} → length (ended (block_line b)) ≤ length s →
    Run 0 (ended (block_line b)) (head_text Job 4 b.track.0 ∷ two_text b.first.0 b.last.0 ∷ (41 ∷ 10 ∷ []) ∷ []) s s 0
run b h = run_start_0 _ (block_parts b) h

pub put_head-a-requires : goal.put_head-a-requires
put_head-a-requires c = (omega arith, run_room (run c.args.block c.requires))

pub put_two-b-requires : goal.put_two-b-requires
put_two-b-requires c = run_room (run c.args.block c.requires then c.put_head-a.ensures)

pub put_bytes_at-requires : goal.put_bytes_at-requires
put_bytes_at-requires c = run_room (run c.args.block c.requires then c.put_head-a.ensures then c.put_two-b.ensures)

pub returns : goal.returns
returns c = from_start (run_end (run c.args.block c.requires then c.put_head-a.ensures then c.put_two-b.ensures then c.put_bytes_at.ensures))
