-- The numbers of a form as the code holds them.
use Rattle.std.specs.Prelude.{◌≡◌, List, ℕ, ◌≤◌, take, Option, None, Some, IfSome}
use Rattle.jobfile.specs.Forms.{arguments}
use Rattle.forms.specs.declared.Arguments.{Arguments}

-- the numbers themselves, where they are given
unfoldable pub arguments_of : Option Arguments → Option (List ℕ)
arguments_of None = None
arguments_of (Some a) = Some (take a.count a.numbers)

-- the numbers are those that stand in these words, at most six, where a closing bracket behind them ends the line
pub record ArgumentsAre (ws : List (List ℕ)) (a : Option Arguments) : Type 0 where
  pub numbers_are : arguments_of a ≡ arguments 6 ws
  pub count_range : IfSome a (λ x. x.count ≤ 6)
