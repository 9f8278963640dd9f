-- What a step over a line and a token say, taken out: no clause of theirs asks nothing. Assumes nothing.
use mathlib.Core.Path.{◌≡◌, ap, ◌∙◌}
use mathlib.Core.Bool.{false}
use mathlib.Core.List.{List, ◌∷◌}
use Prim.Native.Nat.{ℕ, ◌+◌, ◌-◌, ◌≤◌, ◌<◌}
use native.Mathlib.Omega.{arith}
use Rattle.std.specs.Prelude.{Option, Some}
use lib.ListN.{length, get_or, take, drop}
use Rattle.text.specs.Bytes.{is_bracket, lines}
use Rattle.lines.specs.declared.Line.{Line}
use Rattle.lines.specs.declared.Place.{Place}
use Rattle.lines.specs.declared.Token.{Token}
use Rattle.lines.specs.declared.Token.TheVariants.{Open, Shut, Word}
use Rattle.lines.specs.Stepped.{Stepped}
use Rattle.lines.specs.Tokens.{line_words, token_words}
use Rattle.lines.specs.Tokened.{Tokened}

module _ (s : List ℕ) (p : Place) (l : Line) (d : Stepped s p l) where
  -- the line begins at the place and ends within the text, and it is the first of those left
  pub line_at : lines (drop p.at s) ≡ take (l.to - p.at) (drop p.at s) ∷ lines (drop l.next.at s)
  line_at = d.line ∙ ap (λ k. take (l.to - k) (drop k s) ∷ lines (drop l.next.at s)) d.starts

  pub line_within : (p.at ≤ l.to) × (l.to ≤ length s)
  line_within = (omega (arith, d.starts, d.ordered), d.inside)

  -- the lines passed and those left are together as many as before
  pub lines_kept : l.next.passed + length (lines (drop l.next.at s)) ≡ p.passed + length (lines (drop p.at s))
  lines_kept = rw d.line (omega (arith, d.counted))

  -- fewer bytes are left, so that steps come to an end
  pub bytes_fewer : length s - l.next.at < length s - p.at
  bytes_fewer = omega (arith, d.ahead, d.within)

module _ (s : List ℕ) (at : ℕ) where
  -- the words of the line from a place on are the token there and those behind it
  pub words_left : (r : Option Token) → Tokened s at r → line_words (drop at s) ≡ token_words s r
  words_left r t = t.words

  -- fewer bytes are left behind a bracket and behind a word, and a word is no bracket
  pub open_fewer : (next : ℕ) → Tokened s at (Some (Open next)) → length s - next < length s - at
  open_fewer next t = omega (arith, t.placed.0, t.placed.1)

  pub shut_fewer : (next : ℕ) → Tokened s at (Some (Shut next)) → length s - next < length s - at
  shut_fewer next t = omega (arith, t.placed.0, t.placed.1)

  pub word_fewer : (from to : ℕ) → Tokened s at (Some (Word from to)) → (length s - to < length s - at) × (is_bracket (get_or s from 0) ≡ false)
  word_fewer from to t = (omega (arith, t.placed.0, t.placed.1, t.placed.2), t.placed.3)
