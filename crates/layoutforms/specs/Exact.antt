-- The parts of a line of a layout, each at the start of a text, with what is behind it. Document 01, "Drawing": single spaces, numbers of
-- one to six digits, no leading zeros.
use denote.Ref.{Bor}
use Rattle.std.specs.Prelude.{Bool, false, cond, ◌&&◌, List, [], ◌∷◌, map, ℕ, take, drop, eqb, Option, None, Some, option_map, option_and_then}
use Rattle.text.specs.Bytes.{same, ends_word}
use Rattle.text.specs.Digits.{number, value_from}
use Rattle.lines.specs.Places.{until}
use Rattle.layout.specs.declared.Point.{Point}
use Rattle.layout.specs.LayoutText.{points_then}
use Rattle.layout.specs.ReadBack.{words_in, points_of, small_points}

infixl 10 ◌>>=◌
-- what is made of a value that was read; none where none was
abbrev pub ◌>>=◌ : {A B : Type 0} → Option A → (A → Option B) → Option B
o >>= f = option_and_then f o

-- what the code read, with what is behind it as a text
abbrev pub read_of : {A : Type 0} → Option (A × Bor (List ℕ)) → Option (A × List ℕ)
read_of o = option_map (λ r. (r.0, r.1.now)) o

-- the closing bracket as a text
abbrev pub shut_text : List ℕ
shut_text = 41 ∷ []

-- what is behind byte b, where a text begins with it
unfoldable pub behind : ℕ → List ℕ → Option (List ℕ)
behind b [] = None
behind b (c ∷ t) = cond (eqb c b) (Some t) None

-- a digit 0 before other digits
unfoldable pub leading_zero : List ℕ → Bool
leading_zero [] = false
leading_zero (b ∷ []) = false
leading_zero (b ∷ c ∷ w) = eqb b 48

-- a word of one to six digits without leading zeros is a number
unfoldable pub exact_number : List ℕ → Option ℕ
exact_number w = cond (leading_zero w) None (number 6 w)

-- a number, as far as a word ends
unfoldable pub number_in : List ℕ → Option (ℕ × List ℕ)
number_in t = option_map (λ v. (v, drop (until ends_word t) t)) (exact_number (take (until ends_word t) t))

-- a number behind one space
unfoldable pub spaced_number : List ℕ → Option (ℕ × List ℕ)
spaced_number t = do
  rest ← behind 32 t
  number_in rest

-- a number behind one space and an opening bracket
unfoldable pub opened_number : List ℕ → Option (ℕ × List ℕ)
opened_number t = do
  bracket ← behind 32 t
  rest ← behind 40 bracket
  number_in rest

-- a point, " (column row)"
unfoldable pub point_in : List ℕ → Option (Point × List ℕ)
point_in t = do
  column ← opened_number t
  row ← spaced_number column.1
  rest ← behind 41 row.1
  Some (record { column = column.0; row = row.0 }, rest)

-- the points that the words of a text say, whatever stands between them
unfoldable pub points_in : List ℕ → List Point
points_in t = points_of (map (value_from 0) (words_in t))

-- a text is points, each behind one space, and a closing bracket: it is what is written for the points that its words say
unfoldable pub is_points : List ℕ → Bool
is_points t = same (points_then (points_in t) shut_text) t && small_points (points_in t)
