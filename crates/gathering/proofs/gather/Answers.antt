-- `gathering::gather` meets its contract. Assumes nothing.
use Prim.Native.Nat.{◌<◌}
use mathlib.Core.Path.{◌≡◌, sym, ap, ◌∙◌}
use native.Mathlib.Omega.{arith}
use lib.ListN.{length}
use lib.Seq.{get_or-take, length-take-le}
use borrow.Author.Rules.{rules}
use Rattle.std.specs.Prelude.{None}
use Rattle.candidates.specs.SlotArrays.{with_value}
use Rattle.candidates.specs.Gathered.{BlocksOf}
use Rattle.gathering.proofs.Gathering.{found_range, passed_none, passed_skip, passed_take, passed_all}
use Rattle.gathering.proofs.gather.Goals.{then-has_blocks, else-has_blocks, in-Some, in_default}
use Rattle.gathering.proofs.gather.Goals as goal

pub loop-i-init : goal.loop-i-init
loop-i-init c = record { size = search rules; no_more = omega arith; passed = passed_none c.args.job.now c.args.stands.now c.if-has_blocks.map c.args.found.now.slots c.args.flags.now }

pub flag_part-requires-clause-le_first : goal.flag_part-requires-clause-le_first
flag_part-requires-clause-le_first c =
    let l = c.loop-i in
    let lent = c.nets-nets.ensures in
    let table = c.tops_table in
    let n = length c.nets-nets.result.now in
    let same : n ≡ length c.args.job.now.nets = ap length lent.nets in
    let few = lent.accepted.nets_count in
    let rows = length-take-le n table.new.table (omega (arith, table.array_long)) in
    let h : l.i < n = omega arith in
    found_range c.args.job.now lent.accepted c.args.stands.now c.if-has_blocks.map c.args.found.now.slots c.args.flags.now l.found l.flags l.i (omega arith)
    table.new.table table.ensures c.in-Some.tops (sym (get_or-take n table.new.table l.i None h) ∙ c.in-Some.is)

pub loop-i-preserved : goal.loop-i-preserved
unfolding with_value
loop-i-preserved c =
    let job = c.args.job.now in
    let l = c.loop-i in
    let lent = c.nets-nets.ensures in
    let table = c.tops_table in
    let n = length c.nets-nets.result.now in
    let same : n ≡ length job.nets = ap length lent.nets in
    let few = lent.accepted.nets_count in
    let rows = length-take-le n table.new.table (omega (arith, table.array_long)) in
    let h : l.i < n = omega arith in
    let within : l.i < length job.nets = omega arith in
    let at = sym (get_or-take n table.new.table l.i None h) in
    elim c.match-slot.branch [
      | in-Some w ↦ rw (w.found-is, w.push.ensures, w.flags-is) (record {
        size = l.invariant.size;
        no_more = omega arith;
        passed = passed_take job lent.accepted c.args.stands.now c.if-has_blocks.map c.args.found.now.slots c.args.flags.now l.found l.flags l.i within
            table.new.table table.ensures w.in-Some.tops (at ∙ w.in-Some.is) c.requires.in_bounds l.invariant.passed l.invariant.size w.flag_part.new.flags w.flag_part.ensures;
      })
      | in_default w ↦ rw (w.found-is, w.flags-is) (record {
        size = l.invariant.size;
        no_more = omega arith;
        passed = passed_skip job lent.accepted c.args.stands.now c.if-has_blocks.map c.args.found.now.slots c.args.flags.now l.found l.flags l.i within
            table.new.table table.ensures (at ∙ w.in_default.is) l.invariant.passed;
      })
    ]

pub returns : goal.returns
returns c =
    let job = c.args.job.now in
    let lent = c.nets-nets.ensures in
    let table = c.tops_table in
    let n = length c.nets-nets.result.now in
    let same : n ≡ length job.nets = ap length lent.nets in
    let few = lent.accepted.nets_count in
    let rows = length-take-le n table.new.table (omega (arith, table.array_long)) in
    let fits : BlocksOf job c.args.track.0 c.if-has_blocks.map =
    elim c.if-has_blocks.branch [
      | then-has_blocks w ↦ rw w.map-is w.block_map.ensures
      | else-has_blocks w ↦ rw w.map-is (sym c.has_blocks.ensures ∙ w.if-has_blocks.false)
    ] in
    passed_all job lent.accepted c.args.stands.now c.if-has_blocks.map c.args.found.now.slots c.args.flags.now c.loop-i.found c.loop-i.flags c.loop-i.i
    c.args.track.0 fits c.requires.in_bounds (omega arith) c.loop-i.invariant.passed
