-- `layoutforms::rows::column_rows` meets its contract: the points of a wire begin where its number ends. Assumes nothing.
use Rattle.std.proofs.Common.{◌<◌, length, arith}
use Rattle.layoutforms.proofs.RowsRead.{wire_rows, no_number, short_rows}
use Rattle.layoutforms.proofs.rows.column_rows.Goals as goal

pub returns-in_err-get : goal.returns-in_err-get
returns-in_err-get c =
    let h = c.in_err-get.ensures.lookup in
    let k : length c.args.s.now < 7 = omega arith in
    short_rows _ _ _ k

pub returns-in_err-points : goal.returns-in_err-points
returns-in_err-points c = no_number _ _ _ _ c.in_ok-get.ensures.lookup.0.2 c.in_err-points.ensures

pub returns : goal.returns
returns c = wire_rows _ _ _ _ _ c.in_ok-get.ensures.lookup.0.2 c.in_ok-points.ensures c.point_rows.ensures
