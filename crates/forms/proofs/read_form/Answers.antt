-- `forms::read_form` meets its contract: a line by its first token. Assumes nothing.
use mathlib.Core.Path.{◌∙◌}
use Rattle.forms.proofs.Gathering.{token_is}
use Rattle.forms.proofs.Forms.{form_none, form_open, form_shut, form_word}
use Rattle.forms.proofs.read_form.Goals as goal

pub form_opened-requires : goal.form_opened-requires
form_opened-requires c = (token_is _ _ _ (rw c.in-Some-Open.field-0-is at c.in-Some-Open.ensures)).placed.1

pub if_last-requires : goal.if_last-requires
if_last-requires c = (token_is _ _ _ (rw c.in-Some-Shut.field-0-is at c.in-Some-Shut.ensures)).placed.1

pub returns-in-None : goal.returns-in-None
returns-in-None c = form_none _ (token_is _ _ _ c.in-None.ensures)

pub returns-in-Some-Open : goal.returns-in-Some-Open
returns-in-Some-Open c = c.form_opened.ensures ∙ form_open _ _ (token_is _ _ _ (rw c.in-Some-Open.field-0-is at c.in-Some-Open.ensures))

pub returns-in-Some-Shut : goal.returns-in-Some-Shut
returns-in-Some-Shut c = c.if_last.ensures ∙ form_shut _ _ (token_is _ _ _ (rw c.in-Some-Shut.field-0-is at c.in-Some-Shut.ensures))

pub returns-in-Some-Word : goal.returns-in-Some-Word
returns-in-Some-Word c = form_word _ _ _ (token_is _ _ _ (rw c.in-Some-Word.field-0-is at c.in-Some-Word.ensures))
