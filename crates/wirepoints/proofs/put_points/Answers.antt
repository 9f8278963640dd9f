-- `wirepoints::put_points` meets its contract: by the shape, and by which pin is above. Assumes nothing.
use mathlib.Core.Path.{sym, ap}
use mathlib.Core.Bool.{true, false}
use native.Mathlib.Omega.{arith}
use lib.ListN.{length}
use Rattle.wirepoints.proofs.Parts.{plain_points, stretched_points, bottom_small, above, written_at_as}
use Rattle.wirepoints.proofs.put_points.Goals as goal
use Rattle.wirepoints.proofs.put_points.Goals.{then-lt, else-lt}

pub put_pin-requires : goal.put_pin-requires
put_pin-requires c =
    let e = plain_points c.args.net c.args.wired c.width-w.result c.in-Plain.is c.width-w.ensures in
    rw c.plain_path.ensures (omega (arith, c.requires.top_in_bounds, ap length e))

pub returns-in-Plain : goal.returns-in-Plain
returns-in-Plain c =
    let e = plain_points c.args.net c.args.wired c.width-w.result c.in-Plain.is c.width-w.ensures in
    written_at_as (sym e) (rw c.plain_path.ensures at c.put_pin.ensures)

-- at a stretched wire, with its width and span told: its bottom row, and its points, down or up

pub overflow_add-bottom : goal.overflow_add-bottom
overflow_add-bottom c =
    omega (arith, bottom_small c.args.net c.args.wired c.width-w.result c.span.result c.in-Stretched.e c.in-Stretched.is c.requires.drawable c.width-w.ensures c.span.ensures)

pub overflow_add-bottom-in-Stretched : goal.overflow_add-bottom-in-Stretched
overflow_add-bottom-in-Stretched c =
    omega (arith, bottom_small c.args.net c.args.wired c.width-w.result c.span.result c.in-Stretched.e c.in-Stretched.is c.requires.drawable c.width-w.ensures c.span.ensures)

pub put_pin-requires-in-Stretched : goal.put_pin-requires-in-Stretched
put_pin-requires-in-Stretched c =
    let n = c.args.net.net in
    let e = stretched_points c.args.net c.args.wired c.width-w.result c.span.result c.in-Stretched.e c.in-Stretched.is c.requires.drawable c.width-w.ensures c.span.ensures in
    elim c.if-lt.branch [
      | then-lt w ↦ rw (w.path-is, w.stretched_path-path.ensures) (omega (arith, c.requires.top_in_bounds, ap length (e true (above n.left.0 n.right.0 c.lt.ensures w.if-lt.true))))
      | else-lt w ↦ rw (w.path-is, w.stretched_path-path-else-lt.ensures) (omega (arith, c.requires.top_in_bounds, ap length (e false (above n.left.0 n.right.0 c.lt.ensures w.if-lt.false))))
    ]

pub returns-after-lt : goal.returns-after-lt
returns-after-lt c =
    let n = c.args.net.net in
    let e = stretched_points c.args.net c.args.wired c.width-w.result c.span.result c.in-Stretched.e c.in-Stretched.is c.requires.drawable c.width-w.ensures c.span.ensures in
    elim c.if-lt.branch [
      | then-lt w ↦ written_at_as (sym (e true (above n.left.0 n.right.0 c.lt.ensures w.if-lt.true))) (rw (w.path-is, w.stretched_path-path.ensures) at c.put_pin-in-Stretched.ensures)
      | else-lt w ↦ written_at_as (sym (e false (above n.left.0 n.right.0 c.lt.ensures w.if-lt.false))) (rw (w.path-is, w.stretched_path-path-else-lt.ensures) at c.put_pin-in-Stretched.ensures)
    ]
