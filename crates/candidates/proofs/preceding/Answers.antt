-- `candidates::preceding` meets its contract. Assumes nothing.
use Prim.Native.Nat.{◌<◌}
use mathlib.Core.Path.{ap}
use native.Mathlib.Omega.{arith}
use lib.ListN.{length}
use Rattle.candidates.specs.Placed.{before_in}
use Rattle.candidates.proofs.NetBefore.{before_none, before_more, before_all}
use Rattle.candidates.proofs.preceding.Goals as goal

pub loop-i-init : goal.loop-i-init
loop-i-init c = before_none c.args.job.now.nets (before_in c.args.job.now.nets)

pub loop-i-preserved : goal.loop-i-preserved
loop-i-preserved c =
    let lent = c.nets-net-items.ensures in
    let h : c.loop-i.i < length c.args.job.now.nets = omega (arith, ap length lent.nets) in
    rw lent.nets (before_more c.args.job.now lent.accepted c.loop-i.i h c.nets_by_left.new.by_left c.loop-i.before c.nets_by_left.ensures c.loop-i.invariant)

pub returns : goal.returns
returns c = before_all c.loop-i.before c.args.job.now c.loop-i.i (omega (arith, ap length c.nets-net-items.ensures.nets)) c.loop-i.invariant
