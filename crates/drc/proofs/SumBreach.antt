-- A track line that fails the test of its sum has a false one, which the lines below it show. Assumes nothing.
use Prim.Native.Nat.{ℕ}
use mathlib.Core.Path.{◌≡◌}
use mathlib.Core.Bool.{false}
use Rattle.std.specs.Prelude.{Option}
use mathlib.Core.List.{List, []}
use native.Mathlib.Omega.{arith}
use Rattle.board.specs.Job.{Job}
use Rattle.layout.specs.Tree.{Line}
use Rattle.sound.specs.Wires.{wires_sum}
use Rattle.drc.specs.Standing.{in_layout}
use Rattle.drc.specs.Breach.{FalseSum}
use Rattle.drc.specs.Judge.{is_true_sum}
use Rattle.drc.proofs.InPlace.{can_stand_of}
use Rattle.drc.proofs.SumRule.{ends_of, sum_fails}

module _ (job : Job) (u s : ℕ) where
  pub fails_sum : (earlier : List ℕ) (ls : List (Option Line)) → is_true_sum job u s 0 ls ≡ false → FalseSum job earlier u s ls
  fails_sum earlier ls f =
      let r = sum_fails job u s 0 ls f in
      record {
        wires = r.wires;
        next = r.next;
        rest = r.rest;
        lines_below = r.lines_below;
        ends_wires = r.ends_wires;
        can_stand = can_stand_of job (in_layout u earlier r.wires []) r.next (rw (ends_of job u s r.next r.ends_wires earlier r.wires) at r.ends);
        differs = λ (e : wires_sum job r.wires ≡ s). r.differs (omega arith);
      }
