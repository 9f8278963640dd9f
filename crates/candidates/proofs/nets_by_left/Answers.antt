-- `candidates::nets_by_left` meets its contract. Assumes nothing.
use Prim.Native.Nat.{◌<◌}
use mathlib.Core.Path.{ap}
use native.Mathlib.Omega.{arith}
use lib.ListN.{length}
use borrow.Author.Rules.{rules}
use Rattle.candidates.proofs.NetBefore.{by_left_none, by_left_more}
use Rattle.candidates.proofs.nets_by_left.Goals as goal

pub loop-i-init : goal.loop-i-init
loop-i-init c = record { same_length = search rules; passed = rw c.requires (by_left_none c.args.job.now.nets) }

pub loop-i-preserved : goal.loop-i-preserved
loop-i-preserved c =
    let l = c.loop-i in
    let job = c.args.job.now in
    let lent = c.nets-net-items.ensures in
    let h : l.i < length job.nets = omega (arith, ap length lent.nets) in
    record {
      same_length = search rules;
      passed = rw lent.nets (by_left_more job lent.accepted l.i h l.by_left l.invariant.same_length l.invariant.passed);
    }
