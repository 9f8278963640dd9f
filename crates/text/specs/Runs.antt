-- A run of writes from a place on: the text done, and the text that is still to come.
use Rattle.std.specs.Prelude.{◌≡◌, List, ◌++◌, ℕ}
use Rattle.text.specs.Written.{WrittenAt}

-- of the text `whole`, `rest` is still to come; what is done stands from the place `at` on, and `next` is the place behind it
pub record Going (at : ℕ) (whole rest before after : List ℕ) (next : ℕ) : Type 0 where
  pub done : List ℕ
  pub parts : done ++ rest ≡ whole
  pub written : WrittenAt at done before after next
