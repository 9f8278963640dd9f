-- `wirepoints::put_path` meets its contract: before each turn of the loop the points passed are written. Assumes nothing.
use Prim.Native.Nat.{◌+◌}
use lib.ListN.{get_or, drop}
use Rattle.text.proofs.Runs.{going_on, going_room, going_more, going_end}
use Rattle.layout.specs.Drawing.{at}
use Rattle.wirepoints.specs.Points.{next_text, path_text}
use Rattle.wirepoints.proofs.Parts.{differ, left_out, path_step, path_last}
use Rattle.wirepoints.proofs.put_path.Goals as goal
use Rattle.wirepoints.proofs.put_path.Goals.{then-ne, else-ne}

pub put_point-next-requires : goal.put_point-next-requires
put_point-next-requires c =
    let points = c.args.points.now in
    let i = c.loop-point.point-index in
    let last = c.loop-point.last in
    let q = get_or points i (at 0 0) in
    let g = going_on (path_step last points i (at 0 0) c.loop-point-test.true) c.loop-point.invariant in
    rw (← differ last q c.ne.ensures c.if-ne.true) (going_room (next_text last q) (path_text q (drop (i + 1) points)) g c.requires)

pub loop-point-preserved : goal.loop-point-preserved
loop-point-preserved c =
    let points = c.args.points.now in
    let i = c.loop-point.point-index in
    let last = c.loop-point.last in
    let q = get_or points i (at 0 0) in
    let rest = path_text q (drop (i + 1) points) in
    let g = going_on (path_step last points i (at 0 0) c.loop-point-test.true) c.loop-point.invariant in
    elim c.if-ne.branch [
      | then-ne w ↦ rw (w.out-is, w.next-is) (going_more (next_text last q) rest g c.requires (rw (← differ last q c.ne.ensures w.if-ne.true) at w.put_point-next.ensures))
      | else-ne w ↦ rw (w.out-is, w.next-is) (going_more (next_text last q) rest g c.requires (left_out last q c.loop-point.next c.loop-point.out c.ne.ensures w.if-ne.false))
    ]

pub returns : goal.returns
returns c = going_end (going_on (path_last c.loop-point.last c.args.points.now c.loop-point.point-index c.loop-point-test.false) c.loop-point.invariant)
