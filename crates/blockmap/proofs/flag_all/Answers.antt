-- `blockmap::flag_all` meets its contract: the part of the flags is filled with the byte. Assumes nothing.
use Prim.Native.Nat.{◌-◌}
use mathlib.Core.Path.{◌≡◌, refl, ◌∙◌}
use mathlib.Core.Bool.{Bool, true, false}
use native.Mathlib.Omega.{arith}
use lib.ListN.{length, length-take, length-drop}
use borrow.Rule.Slice.PartMut.{mid_of}
use mir.Val.{bool_byte}
use Rattle.blockmap.specs.Clear.{flag}
use Rattle.blockmap.proofs.ClearTops.{filled}
use Rattle.blockmap.proofs.flag_all.Goals as goal

byte_is : (b : Bool) → bool_byte b ≡ flag b
byte_is true = refl
byte_is false = refl

pub returns : goal.returns
returns c =
    let a = c.args in
    let p = a.first.0 - 1 in
    let room : length (mid_of p (a.last.0 - p) a.flags.now) ≡ a.last.0 - p = simp (length-take, length-drop) (omega arith) in
    filled a.clear a.first.0 a.last.0 c.from.result _ a.flags.now c.fill.new.self (omega arith) (omega arith) (omega arith)
    (c.from.ensures ∙ byte_is a.clear) room (c.fill.ensures.after (λ y e. e))
