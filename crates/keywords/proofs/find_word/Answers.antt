-- `keywords::find_word` meets its contract: the first place of the table at which the word stands. Assumes nothing.
use borrow.Author.Rules.{rules}
use Rattle.std.proofs.lemmas.Iterator.{first_from_Range}
use Rattle.keywords.proofs.Words.{Is, IsNot, searched}
use Rattle.keywords.proofs.find_word.Goals as goal

pub returns : goal.returns
returns c =
    let a = c.args in
    searched a.v a.s.now c.word_count.result _ c.word_count.ensures
    (first_from_Range _ _ _ _ (Is a.v a.s.now) (IsNot a.v a.s.now) c.find.ensures.ran (search rules) (search rules))
