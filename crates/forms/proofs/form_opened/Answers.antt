-- `forms::form_opened` meets its contract: a word is looked up in the table, any other token opens no form. Assumes nothing.
use mathlib.Core.Path.{◌∙◌, ap}
use native.Mathlib.Omega.{arith}
use borrow.Author.Rules.{rules}
use Rattle.std.specs.Prelude.{Some}
use Rattle.lines.specs.declared.Token.TheVariants.{Word}
use lib.ListN.{drop}
use Rattle.lines.specs.Tokens.{line_words}
use Rattle.lines.specs.Tokened.{Tokened}
use Rattle.jobfile.specs.Forms.{form_found}
use Rattle.forms.proofs.Gathering.{token_is}
use Rattle.forms.proofs.Forms.{opened_word, opened_not}
use Rattle.forms.proofs.form_opened.Goals as goal

-- the token is a word
word_read : (c : goal.In-Some-Word) → Tokened c.args.s.now c.args.at (Some (Word c.in-Some-Word.from c.in-Some-Word.to))
word_read c = token_is _ _ _ (rw c.in-Some-Word.field-0-is at c.in-Some-Word.ensures)

pub returns-in_default : goal.returns-in_default
returns-in_default c = opened_not _ _ _ (token_is _ _ _ c.in_default.ensures) (search rules)

pub returns-in_default-2 : goal.returns-in_default-2
returns-in_default-2 c = opened_not _ _ _ (token_is _ _ _ c.read_token.ensures) (search rules)

pub slice_bounds-find_word-count : goal.slice_bounds-find_word-count
slice_bounds-find_word-count c = let t = word_read c in omega arith

pub slice_bounds-find_word-start : goal.slice_bounds-find_word-start
slice_bounds-find_word-start c = let t = word_read c in omega arith

pub slice_bounds-find_word-end : goal.slice_bounds-find_word-end
slice_bounds-find_word-end c = let t = word_read c in omega arith

pub form_after-requires : goal.form_after-requires
form_after-requires c = (token_is _ _ _ (rw c.in-Some-Word.field-0-is at c.in-Some-Word.ensures)).placed.2

pub returns-in-Some : goal.returns-in-Some
unfolding form_found
returns-in-Some c =
    c.form_after.ensures
    ∙ ap (λ o. form_found o (line_words (drop c.in-Some-Word.to c.args.s.now))) c.in-Some.ensures
    ∙ opened_word _ _ _ _ (token_is _ _ _ (rw c.in-Some-Word.field-0-is at c.in-Some-Word.ensures))

pub returns-in-None : goal.returns-in-None
unfolding form_found
returns-in-None c =
    ap (λ o. form_found o (line_words (drop c.in-Some-Word.to c.args.s.now))) c.in-None.ensures ∙ opened_word _ _ _ _ (token_is _ _ _ (rw c.in-Some-Word.field-0-is at c.in-Some-Word.ensures))
