-- `forms::form_after` meets its contract: the bracket that opens a board, a form with numbers, or none of these. Assumes nothing.
use mathlib.Core.Path.{◌∙◌}
use Rattle.forms.specs.Arguments.{arguments_of}
use Rattle.jobfile.specs.Forms.{form_from}
use Rattle.forms.proofs.Forms.{after_numbers, after_board}
use Rattle.forms.proofs.form_after.Goals as goal

pub returns-then-i-eq0 : goal.returns-then-i-eq0
returns-then-i-eq0 c = c.if_last.ensures ∙ after_board _ _ c.if-i-eq0.true

pub returns-in-Some : goal.returns-in-Some
unfolding arguments_of form_from
returns-in-Some c = c.make_form.ensures ∙ after_numbers _ _ _ c.if-i-eq0.false c.in-Some.ensures.numbers_are

pub returns-in-None : goal.returns-in-None
unfolding arguments_of form_from
returns-in-None c = after_numbers _ _ _ c.if-i-eq0.false c.in-None.ensures.numbers_are
