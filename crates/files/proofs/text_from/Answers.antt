-- `files::text_from` meets its contract. Assumes nothing.
use Rattle.files.specs.FileTexts.{text_of}
use Rattle.files.proofs.text_from.Goals as goal

pub returns-clause-read : goal.returns-clause-read
unfolding text_of
returns-clause-read g c = record { written = c.read_from-used.ensures.written }
