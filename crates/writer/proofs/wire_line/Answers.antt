-- `writer::wire_line` meets its contract: three writes in a row. Assumes nothing.
use Prim.Native.Nat.{ℕ, ◌≤◌}
use native.Mathlib.Omega.{arith}
use mathlib.Core.List.{List, [], ◌∷◌}
use lib.ListN.{length}
use Rattle.board.specs.declared.BoardNet.{BoardNet}
use Rattle.board.specs.declared.Wired.{Wired}
use Rattle.text.proofs.Writing.{from_start}
use Rattle.keywords.specs.declared.Vocabulary.TheVariants.{Layout}
use Rattle.linewriter.specs.LineText.{head_text}
use Rattle.linewriter.proofs.Runs.{Run, run_start_0, run_room, ◌then◌, run_end}
use Rattle.wirepoints.specs.Points.{points_text}
use Rattle.writer.specs.Lines.{wire_line}
use Rattle.writer.proofs.Lines.{wire_parts}
use Rattle.writer.proofs.wire_line.Goals as goal

abbrev line : BoardNet → Wired → List ℕ
line n p = wire_line n.board p.track n.net p.shape p.top

run : (n : BoardNet) (p : Wired) {s : List ℕ} → length (line n p) ≤ length s →
    Run 0 (line n p) (head_text Layout 2 n.net.number ∷ points_text n.board p.track n.net p.shape p.top ∷ (41 ∷ 10 ∷ []) ∷ []) s s 0
run n p h = run_start_0 _ (wire_parts n p) h

pub put_head-a-requires : goal.put_head-a-requires
put_head-a-requires c = (omega arith, run_room (run c.args.net c.args.wired c.requires.top_in_bounds))

pub put_points-b-requires : goal.put_points-b-requires
put_points-b-requires c = record {
  drawable = c.requires.drawable;
  top_in_bounds = run_room (run c.args.net c.args.wired c.requires.top_in_bounds then c.put_head-a.ensures);
}

pub put_bytes_at-requires : goal.put_bytes_at-requires
put_bytes_at-requires c = run_room (run c.args.net c.args.wired c.requires.top_in_bounds then c.put_head-a.ensures then c.put_points-b.ensures)

pub returns : goal.returns
returns c =
    let r = run c.args.net c.args.wired c.requires.top_in_bounds then c.put_head-a.ensures then c.put_points-b.ensures in
    from_start (run_end (r then c.put_bytes_at.ensures))
