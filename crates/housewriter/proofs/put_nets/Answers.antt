-- `housewriter::put_nets` meets its contract: before each turn of the loop the nets passed are written. Assumes nothing.
use Prim.Native.Nat.{◌+◌}
use native.Mathlib.Omega.{arith}
use lib.ListN.{get_or, drop}
use Rattle.text.proofs.Writing.{at_rest, rest_room}
use Rattle.text.proofs.Runs.{going_on, going_room, going_more, going_end}
use Rattle.lists.proofs.Places.{mem_at}
use Rattle.board.specs.Stored.{no_net}
use Rattle.house.specs.HouseText.{net_line}
use Rattle.joblines.specs.Lines.{ended}
use Rattle.housewriter.specs.Parts.{nets_text}
use Rattle.housewriter.proofs.Parts.{lines_step, lines_last}
use Rattle.housewriter.proofs.put_nets.Goals as goal

pub invariant_of-line-clause-board_in_range : goal.invariant_of-line-clause-board_in_range
invariant_of-line-clause-board_in_range c = rw c.board-board.ensures.board c.board-board.ensures.accepted.board_range

pub invariant_of-line-clause-net_in_range : goal.invariant_of-line-clause-net_in_range
invariant_of-line-clause-net_in_range c =
    let nets = c.nets-net-items.result.now in
    let accepted = rw (← c.board-board.ensures.board, ← c.nets-net-items.ensures.nets) at c.board-board.ensures.accepted.nets_each in
    (accepted _ (mem_at nets c.loop-net.net-index no_net (omega arith))).in_range

pub net_line-next-requires : goal.net_line-next-requires
net_line-next-requires c =
    let nets = c.nets-net-items.result.now in
    let board = c.args.job.now.board in
    let i = c.loop-net.net-index in
    let e = lines_step (net_line board) nets i no_net (omega arith) in
    let h = rw (← c.nets-net-items.ensures.nets) at c.requires in
    rw c.board-board.ensures.board
    (rest_room _ _ (going_room (ended (net_line board (get_or nets i no_net))) (nets_text board (drop (i + 1) nets)) (going_on e c.loop-net.invariant) h))

pub loop-net-preserved : goal.loop-net-preserved
loop-net-preserved c =
    let nets = c.nets-net-items.result.now in
    let board = c.args.job.now.board in
    let i = c.loop-net.net-index in
    let e = lines_step (net_line board) nets i no_net (omega arith) in
    let h = rw (← c.nets-net-items.ensures.nets) at c.requires in
    let w = at_rest _ _ _ _ _ (rw c.board-board.ensures.board at c.net_line-next.ensures) in
    going_more (ended (net_line board (get_or nets i no_net))) (nets_text board (drop (i + 1) nets)) (going_on e c.loop-net.invariant) h w

pub returns : goal.returns
returns c =
    let nets = c.nets-net-items.result.now in
    let e = lines_last (net_line c.args.job.now.board) nets c.loop-net.net-index (omega arith) in
    rw (← c.nets-net-items.ensures.nets) (going_end (going_on e c.loop-net.invariant))
