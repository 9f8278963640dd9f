-- `forms::if_last` meets its contract. Assumes nothing.
use Rattle.forms.proofs.Forms.{last_yes, last_no}
use Rattle.forms.proofs.if_last.Goals as goal

pub returns-then-at_end : goal.returns-then-at_end
returns-then-at_end c = last_yes _ _ _ c.at_end.ensures c.if-at_end.true

pub returns-else-at_end : goal.returns-else-at_end
returns-else-at_end c = last_no _ _ _ c.at_end.ensures c.if-at_end.false
