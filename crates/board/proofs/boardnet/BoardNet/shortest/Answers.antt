-- `BoardNet::shortest` meets its contract. Assumes nothing.
use Prim.Native.Nat.{◌≤◌, ◌<◌}
use native.Mathlib.Omega.{arith}
use borrow.Author.Tests.{le-leb, lt-leb}
use Rattle.board.specs.Length.{plain_length, shortest}
use Rattle.board.proofs.boardnet.BoardNet.shortest.Goals as goal

pub returns-then-self-plain : goal.returns-then-self-plain
unfolding shortest
returns-then-self-plain c =
    let a = c.args in
    let h : a.self.net.min ≤ plain_length a.self.board a.self.net = omega arith in
    rw (le-leb _ _ h)

pub returns-else-self-plain : goal.returns-else-self-plain
unfolding shortest
returns-else-self-plain c =
    let s = c in
    let a = s.args in
    let h : plain_length a.self.board a.self.net < a.self.net.min = omega arith in
    rw (s.plain_length-plain.ensures, lt-leb _ _ h)
