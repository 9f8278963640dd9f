-- `forms::at_end` meets its contract: only where no token is left no word is. Assumes nothing.
use Rattle.forms.proofs.Gathering.{token_is, none_left}
use Rattle.forms.proofs.at_end.Goals as goal

pub returns : goal.returns
returns c = none_left _ _ _ _ (token_is _ _ _ c.read_token.ensures) c.is_none.ensures
