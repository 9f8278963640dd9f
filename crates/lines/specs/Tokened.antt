-- What a token says of its line. proofs/Tokens.antt shows that every token does.
use Rattle.std.specs.Prelude.{◌≡◌, false, List, ℕ, ◌≤◌, ◌<◌, length, get_or, drop, Option, None, Some}
use Rattle.text.specs.Bytes.{is_bracket}
use Rattle.lines.specs.Tokens.{line_words, token_words}
use Rattle.lines.specs.declared.Token.{Token}
use Rattle.lines.specs.declared.Token.TheVariants.{Open, Shut, Word}

-- what a token at `at` says of its places: they lie behind `at` and within the line; a word is no bracket
abbrev pub TokenPlaced : List ℕ → ℕ → Option Token → Type 0
TokenPlaced s at None = Unit {0}
TokenPlaced s at (Some (Open next)) = (at < next) × (next ≤ length s)
TokenPlaced s at (Some (Shut next)) = (at < next) × (next ≤ length s)
TokenPlaced s at (Some (Word from to)) = (at ≤ from) × (from < to) × (to ≤ length s) × (is_bracket (get_or s from 0) ≡ false)

-- the words from a place on are the token there and those behind it
pub record Tokened (s : List ℕ) (at : ℕ) (r : Option Token) : Type 0 where
  pub words : line_words (drop at s) ≡ token_words s r
  pub placed : TokenPlaced s at r
