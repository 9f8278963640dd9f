-- The layout's spacing: with the words and numbers of a layout's lines, the lines of the fixed text are the layout's, byte for byte. Assumes
-- nothing.
use Prim.Native.Nat.{ℕ}
use mathlib.Core.Path.{◌≡◌, refl, ap}
use mathlib.Core.List.{List, [], ◌∷◌, ◌++◌, map}
use Rattle.keywords.specs.Keywords.{layout_word, track_word, loose_word}
use Rattle.layout.specs.Tree.{Line, opens, track, loose, closes}
use Rattle.layout.specs.LayoutText.{line_text, lines_text}
use Rattle.house.specs.HouseText.{spaced_then, opening_line, inner_line, closing_line, ended_lines}

pub track_spacing : (t sum : ℕ) → line_text (track t sum) ≡ inner_line track_word (t ∷ sum ∷ [])
unfolding line_text inner_line spaced_then
track_spacing t sum = refl

pub loose_spacing : (n : ℕ) → line_text (loose n) ≡ inner_line loose_word (n ∷ [])
unfolding line_text inner_line spaced_then
loose_spacing n = refl

pub opening_spacing : line_text opens ≡ opening_line layout_word
unfolding line_text opening_line
opening_spacing = refl

pub closing_spacing : line_text closes ≡ closing_line
unfolding line_text
closing_spacing = refl

-- and lines stand one behind the other as in a layout
pub lines_spacing : (ls : List Line) → lines_text ls ≡ ended_lines (map line_text ls)
unfolding lines_text ended_lines
lines_spacing [] = refl
lines_spacing (l ∷ ls) = ap (λ (rest : List ℕ). line_text l ++ 10 ∷ rest) (lines_spacing ls)
