-- `choice::row_pick` meets its contract: before each turn the pick is that of the candidates looked at. What the contract says comes
-- first, then that each number fits and each index is in range. Assumes nothing.
use Prim.Native.Nat.{◌<◌}
use mathlib.Core.Path.{refl, ◌∙◌}
use native.Mathlib.Omega.{arith}
use lib.ListN.{get_or, take}
use lib.Seq.{get_or-take}
use Rattle.choice.specs.Filled.{sum_at, no_listed, pick_among}
use Rattle.choice.proofs.Picking.{Room, stands_room, pick_taken, pick_passed}
use Rattle.choice.proofs.row_pick.Goals.{Then-has_clear_top, then-has_clear_top, else-has_clear_top}
use Rattle.choice.proofs.row_pick.Goals as goal

pub loop-listed-init : goal.loop-listed-init
unfolding pick_among
loop-listed-init c = refl

pub loop-listed-preserved : goal.loop-listed-preserved
unfolding sum_at
loop-listed-preserved c =
    let a = c.args in
    let k = c.loop-listed.listed-index in
    let h : k < a.band.now.count = omega arith in
    let at = get_or-take a.band.now.count a.band.now.slots k no_listed h in
    elim c.if-has_clear_top.branch [
      | then-has_clear_top w ↦ pick_taken _ _ _ _ k _ at c.has_clear_top.ensures c.loop-listed.invariant w.if-has_clear_top.true (w.p-is ∙ w.take_better-p.ensures)
      | else-has_clear_top w ↦ pick_passed _ _ _ _ k _ at c.has_clear_top.ensures c.loop-listed.invariant w.if-has_clear_top.false w.p-is
    ]

-- the candidate that can stand at the row has room below it
room : (c : Then-has_clear_top) → Room c.args.flags.now c.args.best.now c.args.row.0 c.args.band.now c.requires (get_or (take c.args.band.now.count c.args.band.now.slots) c.loop-listed.listed-index no_listed)
room c =
    let a = c.args in
    let k = c.loop-listed.listed-index in
    let h : k < a.band.now.count = omega arith in
    stands_room _ _ _ _ c.requires k _ h (get_or-take a.band.now.count a.band.now.slots k no_listed h) c.has_clear_top.ensures c.if-has_clear_top.true

pub overflow_add-sum : goal.overflow_add-sum
overflow_add-sum c = let r = room (goal.at.overflow_add-sum c).Then-has_clear_top in omega arith

pub offset_bounds-best-j-then-has_clear_top : goal.offset_bounds-best-j-then-has_clear_top
offset_bounds-best-j-then-has_clear_top c = let r = room (goal.at.offset_bounds-best-j-then-has_clear_top c).Then-has_clear_top in omega arith

pub bounds-best-j-then-has_clear_top : goal.bounds-best-j-then-has_clear_top
bounds-best-j-then-has_clear_top c = let r = room (goal.at.bounds-best-j-then-has_clear_top c).Then-has_clear_top in omega arith

pub overflow_add-sum-then-has_clear_top : goal.overflow_add-sum-then-has_clear_top
overflow_add-sum-then-has_clear_top c = let r = room (goal.at.overflow_add-sum-then-has_clear_top c).Then-has_clear_top in omega arith
