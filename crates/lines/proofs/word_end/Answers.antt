-- `lines::word_end` meets its contract. Assumes nothing.
use borrow.Author.Rules.{rules}
use Rattle.text.specs.Bytes.{ends_word}
use Rattle.lines.proofs.word_end.Goals as goal

pub returns : goal.returns
returns c =
    let w = c.scan_to.ensures.scanned in
    (c.scan_to.ensures.exact ends_word (search rules), w.ahead, w.within)
