-- `jobrules::block_outcome` meets its contract: refusal 3, then 4. Assumes nothing.
use mathlib.Core.Path.{sym, ◌∙◌}
use Rattle.jobrules.proofs.Outcomes.{block_fails_3, block_fails_4, block_passes_4}
use Rattle.jobrules.proofs.block_outcome.Goals as goal

pub returns-then-not-is_block_in_range : goal.returns-then-not-is_block_in_range
returns-then-not-is_block_in_range c =
    record {
      outcome = λ job q k. block_fails_3 _ _ _ _ job q k (sym c.is_block_in_range.ensures ∙ c.if-not-is_block_in_range.true);
      fits = tt;
    }

pub returns-then-count-lt256 : goal.returns-then-count-lt256
returns-then-count-lt256 c =
    record {
      outcome = λ job q k. block_passes_4 _ _ _ _ job q k (sym c.is_block_in_range.ensures ∙ c.if-not-is_block_in_range.false) c.if-count-lt256.true;
      fits = c.if-count-lt256.true;
    }

pub returns-else-count-lt256 : goal.returns-else-count-lt256
returns-else-count-lt256 c =
    record {
      outcome = λ job q k. block_fails_4 _ _ _ _ job q k (sym c.is_block_in_range.ensures ∙ c.if-not-is_block_in_range.false) c.if-count-lt256.false;
      fits = tt;
    }
