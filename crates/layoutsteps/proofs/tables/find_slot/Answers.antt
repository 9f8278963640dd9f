-- `layoutsteps::find_slot` meets its contract. Assumes nothing.
use mathlib.Core.Path.{◌≡◌, refl, sym, ◌∙◌}
use Rattle.std.specs.Prelude.{Some}
use Rattle.layoutsteps.specs.LayoutSteps.{form_number}
use Rattle.layoutsteps.proofs.NetsFound.{place_is}
use Rattle.layoutsteps.proofs.tables.find_slot.Goals as goal

pub returns-in_err-index : goal.returns-in_err-index
returns-in_err-index c =
    let k : form_number c.args.form ≡ Some c.in_ok-number.number = sym c.form_number.ensures ∙ c.in_ok-number.was in
    rw (k, c.from_residual-in_err-index.ensures)
    (record { index_is = λ ns size e. sym c.in_err-index.was ∙ c.net_index.ensures.first ∙ place_is ns c.args.numbers.now c.args.count e c.in_ok-number.number; index_range = tt; before_is = tt })

pub returns : goal.returns
returns c =
    let k : form_number c.args.form ≡ Some c.in_ok-number.number = sym c.form_number.ensures ∙ c.in_ok-number.was in
    rw k
    (record { index_is = λ ns size e. sym c.in_ok-index.was ∙ c.net_index.ensures.first ∙ place_is ns c.args.numbers.now c.args.count e c.in_ok-number.number; index_range = c.in_ok-index.ensures.below; before_is = refl })
