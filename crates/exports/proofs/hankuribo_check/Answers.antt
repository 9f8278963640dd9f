-- `exports::hankuribo_check` meets its contract. Assumes nothing.
use mathlib.Core.Path.{ap, ◌∙◌}
use Rattle.exports.specs.Exported.{one_if}
use Rattle.exports.proofs.Verdicts.{check_reply_given, one_is}
use Rattle.exports.proofs.hankuribo_check.Goals as goal

pub returns : goal.returns
returns c =
    let a = c.check-answer.ensures in
    check_reply_given _ _ _ a.answer a.right _ _ _ (record {
      number_is = c.check_number.ensures;
      line_is = c.check_line.ensures;
      broken_is = c.from.ensures ∙ one_is _ ∙ ap one_if c.is_broken.ensures;
    })
