-- `writer::track_line` meets its contract: three writes in a row. Assumes nothing.
use Prim.Native.Nat.{ℕ, ◌≤◌}
use native.Mathlib.Omega.{arith}
use mathlib.Core.List.{List, [], ◌∷◌}
use lib.ListN.{length}
use Rattle.text.specs.Digits.{digits}
use Rattle.text.proofs.Writing.{from_start}
use Rattle.keywords.specs.declared.Vocabulary.TheVariants.{Layout}
use Rattle.linewriter.specs.LineText.{head_text}
use Rattle.linewriter.proofs.Runs.{Run, run_start_0, run_room, ◌then◌, run_end}
use Rattle.layout.specs.Tree.{track}
use Rattle.writer.specs.Lines.{ended_line}
use Rattle.writer.proofs.Lines.{track_parts}
use Rattle.writer.proofs.track_line.Goals as goal

run : (t n : ℕ) {s : List ℕ} → length (ended_line (track t n)) ≤ length s →
    Run 0 (ended_line (track t n)) (head_text Layout 1 t ∷ (32 ∷ digits n) ∷ (41 ∷ 10 ∷ []) ∷ []) s s 0
run t n h = run_start_0 _ (track_parts t n) h

pub put_head-a-requires : goal.put_head-a-requires
put_head-a-requires c = (omega arith, run_room (run c.args.track.0 c.args.sum c.requires))

pub put_spaced-b-requires : goal.put_spaced-b-requires
put_spaced-b-requires c = run_room (run c.args.track.0 c.args.sum c.requires then c.put_head-a.ensures)

pub put_bytes_at-requires : goal.put_bytes_at-requires
put_bytes_at-requires c = run_room (run c.args.track.0 c.args.sum c.requires then c.put_head-a.ensures then c.put_spaced-b.ensures)

pub returns : goal.returns
returns c =
    from_start (run_end (run c.args.track.0 c.args.sum c.requires then c.put_head-a.ensures then c.put_spaced-b.ensures then c.put_bytes_at.ensures))
