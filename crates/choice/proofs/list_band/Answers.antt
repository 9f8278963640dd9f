-- `choice::list_band` meets its contract: before each turn the band is that of the candidates looked at. Assumes nothing.
use Prim.Native.Nat.{◌<◌}
use mathlib.Core.Path.{refl, ap, ◌∙◌}
use native.Mathlib.Omega.{arith}
use lib.Seq.{get_or-take}
use Rattle.candidates.specs.Gathered.{no_candidate}
use Rattle.candidates.specs.SlotArrays.{with_value}
use Rattle.choice.specs.Filled.{in_band, band_to}
use Rattle.choice.proofs.Bands.{band_room, band_listed, band_passed}
use Rattle.choice.proofs.list_band.Goals.{then-has_top, else-has_top}
use Rattle.choice.proofs.list_band.Goals as goal

pub loop-i-init : goal.loop-i-init
unfolding band_to
loop-i-init c = refl

pub push-requires : goal.push-requires
push-requires c = (omega arith, band_room _ _ _ _ c.requires.1 c.loop-i.i (omega arith) c.loop-i.invariant)

pub loop-i-preserved : goal.loop-i-preserved
loop-i-preserved c =
    let a = c.args in
    let i = c.loop-i.i in
    let h : i < a.c.now.count = omega arith in
    let here = get_or-take a.c.now.count a.c.now.slots i no_candidate h in
    let has = c.has_top.ensures ∙ ap (λ x. in_band x a.lo.0 a.hi.0) here in
    elim c.if-has_top.branch [
      | then-has_top w ↦ band_listed _ _ _ _ i has c.loop-i.invariant w.if-has_top.true (w.band-is ∙ w.push.ensures ∙ ap (λ x. with_value c.loop-i.band (record { part = i; candidate = x })) here)
      | else-has_top w ↦ band_passed _ _ _ _ i has c.loop-i.invariant w.if-has_top.false w.band-is
    ]
