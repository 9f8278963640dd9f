-- `choice::fill` meets its contract: each turn fills one row as the definition does. Assumes nothing.
use Prim.Native.Nat.{◌-◌, ◌+◌}
use mathlib.Core.Path.{◌≡◌}
use native.Mathlib.Omega.{arith}
use borrow.Author.Rules.{rules}
use Rattle.choice.proofs.Filling.{BandAt, band_entered, band_kept, band_above, band_row, band_size, rows_left_start, rows_left_row, rows_left_again, rows_left_end}
use Rattle.choice.proofs.fill.Goals.{Joined-j-start, then-j-start, else-j-start}
use Rattle.choice.proofs.fill.Goals as goal

pub loop-j-init : goal.loop-j-init
loop-j-init c =
    let e : c.args.rows + 1 - 1 ≡ c.args.rows = omega arith in record {
      rows_left = rw e (rows_left_start _ _ _ c.requires);
      size = search rules;
      band = λ h. absurd (omega arith);
    }

-- the listed candidates are those of a band in which the row lies
row_in_band : (c : Joined-j-start) → BandAt c.args.c.now c.if-j-start.band c.if-j-start.start (c.loop-j.j - 1)
row_in_band c =
    elim c.if-j-start.branch [
      | then-j-start w ↦ band_entered (c.loop-j.j - 1) c.loop-j.band.slots c.loop-j.invariant.size w.start-is w.band-is w.band_start-from.ensures.1 w.list_band.ensures
      | else-j-start w ↦ band_kept w.start-is w.band-is (c.loop-j.invariant.band w.if-j-start.false)
    ]

pub row_pick-p-requires : goal.row_pick-p-requires
row_pick-p-requires c =
    let now = c.loop-j in
    rows_left_row _ _ _ c.requires now.best now.choice (now.j - 1) _ _ (omega arith) now.invariant.rows_left (row_in_band (goal.at.row_pick-p-requires c).Joined-j-start)

pub loop-j-preserved : goal.loop-j-preserved
loop-j-preserved c =
    let now = c.loop-j in
    let band = row_in_band (goal.at.loop-j-preserved c).Joined-j-start in
    let pick = band_row _ _ _ c.requires now.best (now.j - 1) _ _ c.row_pick-p.result band c.row_pick-p.ensures in record {
      rows_left = rows_left_again _ _ _ c.requires now.best now.choice (now.j - 1) c.row_pick-p.result (omega arith) now.invariant.rows_left pick;
      size = band_size _ _ _ c.requires (now.j - 1) _ _ band;
      band = λ l. band_above (now.j - 1) l band;
    }

pub returns : goal.returns
returns c =
    let now = c.loop-j in
    rows_left_end _ _ _ c.requires now.best now.choice (now.j - 1) (omega arith) now.invariant.rows_left
