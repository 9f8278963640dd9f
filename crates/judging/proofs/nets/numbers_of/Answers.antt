-- `judging::nets::numbers_of` meets its contract: before each turn of the loop the array has the numbers of the nets passed. Assumes nothing.
use Prim.Native.Nat.{◌<◌}
use mathlib.Core.Path.{refl, ap}
use native.Mathlib.Omega.{arith}
use borrow.Author.Rules.{rules}
use lib.ListN.{length}
use Rattle.judging.proofs.Indexes.{numbers_none, numbers_more}
use Rattle.judging.proofs.nets.numbers_of.Goals as goal

pub loop-i-init : goal.loop-i-init
loop-i-init c = (refl, numbers_none c.args.job.now.nets)

pub loop-i-preserved : goal.loop-i-preserved
loop-i-preserved c =
    let nets = c.args.job.now.nets in
    let l = c.loop-i in
    let lent = c.nets-net-items.ensures in
    let h : l.i < length nets = omega (arith, ap length lent.nets) in
    (search rules, rw lent.nets (numbers_more nets l.numbers l.i h (omega (arith, lent.accepted.nets_count)) l.invariant.1))
