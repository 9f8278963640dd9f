-- `layoutsteps::NetTables::find_net` meets its contract. Assumes nothing.
use Prim.Native.Nat.{◌<◌}
use mathlib.Core.Path.{refl, sym, ap}
use native.Mathlib.Omega.{arith}
use lib.ListN.{length}
use Rattle.candidates.proofs.NetBefore.{preceding_at, preceding_range}
use Rattle.layoutsteps.proofs.NetsFound.{none_looked, some_looked}
use Rattle.layoutsteps.proofs.tables.NetTables.find_net.Goals as goal

pub returns-in_err-at : goal.returns-in_err-at
returns-in_err-at c =
    let t = c.args.self in
    rw c.from_residual.ensures
    (none_looked t.job.now t.numbers.now t.before.now t.numbers_are _ (rw (c.in_err-at.was, c.nets.ensures.nets) at c.find_slot.ensures))

pub invariant_of-result : goal.invariant_of-result
invariant_of-result c =
    let t = c.args.self in
    let lent = c.nets.ensures in
    let h : c.in_ok-at.at.index < length t.job.now.nets = omega (arith, c.in_ok-at.ensures.index_range, ap length lent.nets) in
    record { index_range = omega (arith, h, lent.accepted.nets_count); before_range = rw (c.in_ok-at.ensures.before_is, t.before_are) (preceding_range t.job.now lent.accepted c.in_ok-at.at.index h) }

pub returns : goal.returns
returns c =
    let t = c.args.self in
    let lent = c.nets.ensures in
    let h : c.in_ok-at.at.index < length t.job.now.nets = omega (arith, c.in_ok-at.ensures.index_range, ap length lent.nets) in
    some_looked t.job.now t.numbers.now t.before.now t.numbers_are _ c.in_ok-at.at (rw (c.in_ok-at.was, lent.nets) at c.find_slot.ensures) _ refl
    (record {
      index_range = h;
      board_is = sym c.net.ensures.board;
      net_is = sym c.net.ensures.net;
      before_is = rw (c.in_ok-at.ensures.before_is, t.before_are, c.net.ensures.net) (preceding_at t.job.now lent.accepted c.in_ok-at.at.index h);
    })
