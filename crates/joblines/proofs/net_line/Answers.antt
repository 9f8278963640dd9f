-- `joblines::net_line` meets its contract: five writes in a row. Assumes nothing.
use Prim.Native.Nat.{ℕ, ◌≤◌}
use mathlib.Core.List.{List, [], ◌∷◌}
use native.Mathlib.Omega.{arith}
use lib.ListN.{length}
use Rattle.board.specs.declared.BoardNet.{BoardNet}
use Rattle.text.proofs.Writing.{from_start}
use Rattle.linewriter.specs.LineText.{head_text}
use Rattle.linewriter.proofs.Runs.{Run, run_start_0, run_room, ◌then◌, run_end}
use Rattle.keywords.specs.declared.Vocabulary.TheVariants.{Job}
use Rattle.house.specs.HouseText.{weight_written, net_line}
use Rattle.joblines.specs.Lines.{ended, two_text, optional_text}
use Rattle.joblines.proofs.Lines.{net_parts}
use Rattle.joblines.proofs.net_line.Goals as goal

abbrev parts : BoardNet → List (List ℕ)
parts l =
    let n = l.net in
    head_text Job 3 n.number ∷ two_text n.left.0 n.right.0 ∷ two_text n.min n.max ∷ optional_text (weight_written l.board n) ∷ (41 ∷ 10 ∷ []) ∷ []

run : (l : BoardNet) {s : List ℕ} → length (ended (net_line l.board l.net)) ≤ length s → Run 0 (ended (net_line l.board l.net)) (parts l) s s 0
run l h = run_start_0 _ (net_parts l.net (weight_written l.board l.net)) h

pub put_head-a-requires : goal.put_head-a-requires
put_head-a-requires c = (omega arith, run_room (run c.args.line c.requires))

pub put_two-b-requires : goal.put_two-b-requires
put_two-b-requires c = run_room (run c.args.line c.requires then c.put_head-a.ensures)

pub put_two-c-requires : goal.put_two-c-requires
put_two-c-requires c = run_room (run c.args.line c.requires then c.put_head-a.ensures then c.put_two-b.ensures)

pub put_optional-d-requires : goal.put_optional-d-requires
put_optional-d-requires c =
    rw c.weight_written.ensures (run_room (run c.args.line c.requires then c.put_head-a.ensures then c.put_two-b.ensures then c.put_two-c.ensures))

pub put_bytes_at-requires : goal.put_bytes_at-requires
put_bytes_at-requires c =
    let r = run c.args.line c.requires then c.put_head-a.ensures then c.put_two-b.ensures then c.put_two-c.ensures in
    run_room (r then (rw c.weight_written.ensures at c.put_optional-d.ensures))

pub returns : goal.returns
returns c =
    let r = run c.args.line c.requires then c.put_head-a.ensures then c.put_two-b.ensures then c.put_two-c.ensures in
    from_start (run_end (r then (rw c.weight_written.ensures at c.put_optional-d.ensures) then c.put_bytes_at.ensures))
