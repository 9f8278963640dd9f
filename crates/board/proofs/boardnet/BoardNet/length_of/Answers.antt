-- `BoardNet::length_of` meets its contract. Assumes nothing.
use native.Mathlib.Omega.{arith}
use mathlib.Core.Path.{ap}
use Rattle.board.specs.Length.{extra, length_of}
use Rattle.board.proofs.ShortestShape.{plain_range}
use Rattle.board.proofs.boardnet.BoardNet.length_of.Goals as goal

pub overflow_mul-result : goal.overflow_mul-result
overflow_mul-result c =
    omega (arith, ap extra c.in-Stretched.is)

pub overflow_add-result : goal.overflow_add-result
overflow_add-result c =
    let s = c in
    let p = plain_range s.args.self.board s.args.self.net s.args.self.board_in_range s.args.self.net_in_range in
    omega (arith, ap extra c.in-Stretched.is)

pub overflow_add-result-in-Stretched : goal.overflow_add-result-in-Stretched
overflow_add-result-in-Stretched c =
    let s = c in
    let p = plain_range s.args.self.board s.args.self.net s.args.self.board_in_range s.args.self.net_in_range in
    omega (arith, ap extra c.in-Stretched.is)

pub returns-in-Plain : goal.returns-in-Plain
returns-in-Plain c =
    let a = c.args in
    omega (arith, ap (length_of a.self.board a.self.net) c.in-Plain.is)

pub returns-in-Stretched : goal.returns-in-Stretched
returns-in-Stretched c =
    let a = c.args in
    omega (arith, ap (length_of a.self.board a.self.net) c.in-Stretched.is)
