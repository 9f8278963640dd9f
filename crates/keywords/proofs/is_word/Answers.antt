-- `keywords::is_word` meets its contract: `==` tells whether two texts are the same. Assumes nothing.
use mathlib.Core.Path.{◌∙◌}
use Rattle.text.proofs.Bytes.{compared}
use Rattle.keywords.proofs.is_word.Goals as goal

pub returns : goal.returns
returns c = rw (← c.keyword_at-n.ensures.word_is) (c.eq.ensures ∙ compared _ _)
