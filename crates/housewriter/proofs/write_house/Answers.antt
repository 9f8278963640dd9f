-- `housewriter::write_house` meets its contract: four writes in a row. Assumes nothing.
use Prim.Native.Nat.{ℕ, ◌≤◌}
use mathlib.Core.List.{List, [], ◌∷◌}
use native.Mathlib.Omega.{arith}
use lib.ListN.{length}
use Rattle.text.proofs.Writing.{from_start}
use Rattle.housewriter.specs.Parts.{top_text, nets_text, blocks_text}
use Rattle.board.specs.Job.{Job}
use Rattle.house.specs.Blocks.{sort_blocks}
use Rattle.house.specs.HouseText.{house_text}
use Rattle.housewriter.proofs.Parts.{house_parts}
use Rattle.linewriter.specs.LineText.{closing_text}
use Rattle.linewriter.proofs.Runs.{Run, run_start_0, run_room, ◌then◌, run_end}
use Rattle.housewriter.proofs.write_house.Goals as goal

abbrev parts : Job → List (List ℕ)
parts j = top_text j.board ∷ nets_text j.board j.nets ∷ blocks_text (sort_blocks j.blocks) ∷ closing_text ∷ []

run : (j : Job) {s : List ℕ} → length (house_text j) ≤ length s → Run 0 (house_text j) (parts j) s s 0
run j h = run_start_0 _ (house_parts j) h

pub put_top-a-requires : goal.put_top-a-requires
put_top-a-requires c = rw c.board.ensures.board (omega (arith, run_room (run c.args.job.now c.requires)))

pub put_nets-b-requires : goal.put_nets-b-requires
put_nets-b-requires c = run_room (run c.args.job.now c.requires then (rw c.board.ensures.board at c.put_top-a.ensures))

pub put_blocks-c-requires : goal.put_blocks-c-requires
put_blocks-c-requires c = run_room (run c.args.job.now c.requires then (rw c.board.ensures.board at c.put_top-a.ensures) then c.put_nets-b.ensures)

pub put_closing-requires : goal.put_closing-requires
put_closing-requires c =
    let r = run c.args.job.now c.requires then (rw c.board.ensures.board at c.put_top-a.ensures) then c.put_nets-b.ensures in
    run_room (r then c.put_blocks-c.ensures)

pub returns : goal.returns
returns c =
    let r = run c.args.job.now c.requires then (rw c.board.ensures.board at c.put_top-a.ensures) then c.put_nets-b.ensures in
    from_start (run_end (r then c.put_blocks-c.ensures then c.put_closing.ensures))
