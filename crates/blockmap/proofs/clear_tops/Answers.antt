-- `blockmap::clear_tops` meets its contract: before each turn of the outer loop the bytes of the tops tried are right, those of the other tops are 0
-- and every other is as it was; the rows from the top to before `known` are clear; and row `blocked`, if the top is not below it, is blocked and
-- covered. Before each turn of the inner one the rows from the top to before the current one are clear, and the top is below row `blocked`.
-- Assumes nothing.
use Prim.Native.Nat.{ℕ, ◌+◌, ◌-◌}
use mathlib.Core.Bool.{Bool, true, false}
use mathlib.Core.List.{List}
use mathlib.Core.Path.{◌≡◌, refl, sym, ap, ◌∙◌}
use native.Mathlib.Omega.{arith}
use lib.ListN.{length-set}
use Rattle.blockmap.specs.Clear.{all_unset, flag_tops}
use Rattle.blockmap.specs.Bits.{is_set}
use Rattle.blockmap.proofs.ClearRows.{clear_none, clear_more, clear_of, blocked_in}
use Rattle.blockmap.proofs.ClearTops.{flags_none, flags_more, flags_skip, flags_all, flags_over}
use Rattle.blockmap.proofs.clear_tops.Goals as goal

-- the rows covered from the top on are clear
abbrev is_clear_top : List ℕ → ℕ → ℕ → Bool
is_clear_top words rows top = all_unset words top rows

pub tops-init : goal.tops-init
tops-init c =
    let a = c.args in record {
      same_length = refl;
      written = flags_none (is_clear_top a.map.words a.rows) a.first.0 c.flag_all.new.flags;
      not_past = omega arith;
      clear = clear_none a.map.words a.first.0;
      covered = omega arith;
      met = λ h. absurd (omega arith);
    }

-- the blocked row met last is covered: the top is given up
pub tops-preserved-then-top-blocked : goal.tops-preserved-then-top-blocked
tops-preserved-then-top-blocked c =
    let a = c.args in
    let t = c.tops in
    let spoilt : all_unset a.map.words t.top a.rows ≡ false = blocked_in a.map.words t.top a.rows t.blocked (omega arith) t.invariant.covered (t.invariant.met (omega arith)) in record {
      same_length = t.invariant.same_length;
      written = flags_skip (is_clear_top a.map.words a.rows) a.first.0 (a.last.0 + 1 - a.first.0) a.flags.now c.flag_all.new.flags t.flags t.top (omega arith) (omega arith) (omega arith) (omega arith) c.flag_all.ensures t.invariant.written spoilt;
      not_past = omega arith;
      clear = λ row h k. t.invariant.clear row (omega arith) k;
      covered = omega arith;
      met = λ h. t.invariant.met (omega arith);
    }

pub loop-row-init : goal.loop-row-init
loop-row-init c =
    record {
      in_scan = omega arith;
      from_top = omega arith;
      clear = λ row h k. c.tops.invariant.clear row h (omega arith);
      below = omega arith;
    }

-- a blocked row met: the top is given up
pub tops-preserved-then-is_blocked : goal.tops-preserved-then-is_blocked
tops-preserved-then-is_blocked c =
    let a = c.args in
    let t = c.tops in
    let l = c.loop-row in
    let met : is_set a.map.words l.row ≡ true = sym c.is_blocked.ensures ∙ c.if-is_blocked.true in
    let spoilt : all_unset a.map.words t.top a.rows ≡ false = blocked_in a.map.words t.top a.rows l.row l.invariant.from_top (omega arith) met in record {
      same_length = t.invariant.same_length;
      written = flags_skip (is_clear_top a.map.words a.rows) a.first.0 (a.last.0 + 1 - a.first.0) a.flags.now c.flag_all.new.flags t.flags t.top (omega arith) (omega arith) (omega arith) (omega arith) c.flag_all.ensures t.invariant.written spoilt;
      not_past = omega arith;
      clear = λ row h k. t.invariant.clear row (omega arith) k;
      covered = omega arith;
      met = λ h. met;
    }

pub loop-row-preserved : goal.loop-row-preserved
loop-row-preserved c =
    let words = c.args.map.words in
    let l = c.loop-row in
    let free : is_set words l.row ≡ false = sym c.is_blocked.ensures ∙ c.if-is_blocked.false in record {
      in_scan = omega arith;
      from_top = omega arith;
      clear = clear_more words c.tops.top l.row l.invariant.clear free;
      below = omega arith;
    }

-- every row of the scan is clear: the top is flagged
pub tops-preserved : goal.tops-preserved
tops-preserved c =
    let a = c.args in
    let t = c.tops in
    let l = c.loop-row in
    let clear : all_unset a.map.words t.top a.rows ≡ true = clear_of a.map.words t.top a.rows (λ row h k. l.invariant.clear row h (omega arith)) in record {
      same_length = length-set t.flags (t.top - 1) 1 ∙ t.invariant.same_length;
      written = flags_more (is_clear_top a.map.words a.rows) a.first.0 c.flag_all.new.flags t.flags t.top true (omega arith) t.invariant.written clear;
      not_past = omega arith;
      clear = λ row h k. l.invariant.clear row (omega arith) (omega arith);
      covered = omega arith;
      met = λ h. absurd (omega arith);
    }

pub returns : goal.returns
returns c =
    let a = c.args in
    let t = c.tops in
    flags_all (is_clear_top a.map.words a.rows) a.first.0 c.flag_all.new.flags t.flags a.last.0 (a.last.0 + 1) t.top t.invariant.written (omega arith) (omega arith) refl
    ∙ ap (flag_tops (is_clear_top a.map.words a.rows) a.first.0 (a.last.0 + 1 - a.first.0)) c.flag_all.ensures
    ∙ flags_over (is_clear_top a.map.words a.rows) (λ t. false) a.first.0 (a.last.0 + 1 - a.first.0) a.flags.now (omega arith)
