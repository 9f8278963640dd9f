-- `keywords::keyword_at` meets its contract, by the rule of the tables. Assumes nothing.
use Rattle.keywords.specs.declared.Vocabulary.TheVariants.{Job, Layout}
use Rattle.keywords.proofs.Tables.{word_at, short}
use Rattle.keywords.proofs.keyword_at.Goals as goal

pub returns-in-Job : goal.returns-in-Job
returns-in-Job c = rw c.in-Job.is record { word_is = word_at Job c.args.i; padded = short Job c.args.i }

pub returns-in-Layout : goal.returns-in-Layout
returns-in-Layout c = rw c.in-Layout.is record { word_is = word_at Layout c.args.i; padded = short Layout c.args.i }
