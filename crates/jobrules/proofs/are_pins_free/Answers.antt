-- `jobrules::are_pins_free` meets its contract: a pin is free where its row's bit is not set. Assumes nothing.
use mathlib.Core.Path.{sym, ap, ◌∙◌}
use mathlib.Core.Bool.{not}
use Rattle.jobrules.proofs.Pins.{left_used, right_decides}
use Rattle.jobrules.proofs.are_pins_free.Goals as goal

pub returns-then-not-is_blocked : goal.returns-then-not-is_blocked
returns-then-not-is_blocked c nets p =
    ap not c.is_blocked-then-not-is_blocked.ensures
    ∙ right_decides nets _ _ p (sym c.is_blocked.ensures ∙ c.if-not-is_blocked.true)

pub returns-else-not-is_blocked : goal.returns-else-not-is_blocked
returns-else-not-is_blocked c nets p = ap not c.if-not-is_blocked.false ∙ left_used nets _ _ p (sym c.is_blocked.ensures ∙ c.if-not-is_blocked.false)
