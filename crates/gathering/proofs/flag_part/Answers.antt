-- `gathering::flag_part` meets its contract: part i is lent, and comes back with the flags of the tops. Assumes nothing.
use Prim.Native.Nat.{ℕ, ◌+◌, ◌-◌}
use mathlib.Core.List.{List}
use Rattle.std.specs.Prelude.{Option, None, Some}
use Rattle.blockmap.specs.declared.BlockMap.{BlockMap}
use Rattle.blockmap.specs.Clear.{flag_tops}
use Rattle.candidates.specs.declared.NetTops.{NetTops}
use Rattle.candidates.specs.Gathered.{leave_free}
use Rattle.candidates.proofs.FlagParts.{part_back}
use Rattle.gathering.proofs.flag_part.Goals as goal

-- the flags of the tops
abbrev flagged_tops : Option BlockMap → NetTops → List ℕ → List ℕ
flagged_tops map tops = flag_tops (λ top. leave_free map top tops.need) tops.first.0 (tops.last.0 + 1 - tops.first.0)

pub returns-in-Some : goal.returns-in-Some
returns-in-Some c =
    let a = c.args in
    rw c.in-Some.is (part_back a.i (flagged_tops (Some c.in-Some.map) a.tops) a.flags.now c.clear_tops.new.flags c.clear_tops.ensures)

pub returns-in-None : goal.returns-in-None
returns-in-None c =
    let a = c.args in
    rw c.in-None.is (part_back a.i (flagged_tops None a.tops) a.flags.now c.all_tops.new.flags c.all_tops.ensures)
