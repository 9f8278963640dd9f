-- What a step over a line says of the text. proofs/Steps.antt shows that every step does.
use Rattle.std.specs.Prelude.{◌≡◌, List, ◌∷◌, ℕ, ◌+◌, ◌-◌, ◌≤◌, ◌<◌, length, take, drop}
use Rattle.text.specs.Bytes.{lines}
use Rattle.lines.specs.declared.Line.{Line}
use Rattle.lines.specs.declared.Place.{Place}

-- what a step over a line says: where the line lies, that the place moves on by one line and never back, and which lines are left
pub record Stepped (s : List ℕ) (p : Place) (l : Line) : Type 0 where
  pub starts : l.from ≡ p.at
  pub ordered : l.from ≤ l.to
  pub inside : l.to ≤ length s
  pub ahead : p.at < l.next.at
  pub within : l.next.at ≤ length s
  pub counted : l.next.passed ≡ p.passed + 1
  pub line : lines (drop p.at s) ≡ take (l.to - l.from) (drop l.from s) ∷ lines (drop l.next.at s)
