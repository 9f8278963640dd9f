-- `keywords::put_word_at` meets its contract: what the rest of the buffer took stands at the place. Assumes nothing.
use Rattle.text.proofs.Writing.{at_rest}
use Rattle.keywords.proofs.put_word_at.Goals as goal

pub returns : goal.returns
returns c = at_rest _ _ _ _ _ c.put_word.ensures
