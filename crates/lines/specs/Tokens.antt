-- The words of a line, where each bracket is a word of its own. Document 01, "Text of a job": spaces may stand around brackets and
-- at both ends of a line; words and numbers have one or more between them.
use Rattle.std.specs.Prelude.{cond, List, [], ◌∷◌, ℕ, ◌+◌, ◌-◌, length, get_or, take, drop, eqb, ltb, Option, None, Some}
use Rattle.text.specs.Bytes.{pieces, non_empty, is_space, is_bracket, not_space, ends_word}
use Rattle.lines.specs.Places.{scan}
use Rattle.lines.specs.declared.Token.{Token}
use Rattle.lines.specs.declared.Token.TheVariants.{Open, Shut, Word}

-- a space on both sides of each bracket
unfoldable pub spaced : List ℕ → List ℕ
spaced [] = []
spaced (b ∷ bs) = let rest = spaced bs in cond (is_bracket b) (32 ∷ b ∷ 32 ∷ rest) (b ∷ rest)

-- the words of a line: what stands between spaces, once each bracket has spaces around it
unfoldable pub line_words : List ℕ → List (List ℕ)
line_words s = non_empty (pieces is_space (spaced s))

-- the opening bracket as a word
abbrev pub opening : List ℕ
opening = 40 ∷ []

-- the closing bracket as a word
abbrev pub closing : List ℕ
closing = 41 ∷ []

-- the token whose first byte is at i, or none where the line ends before it
unfoldable pub token_on : List ℕ → ℕ → Option Token
token_on s i =
    cond (ltb i (length s))
    (Some (cond (eqb (get_or s i 0) 40) (Open (i + 1)) (cond (eqb (get_or s i 0) 41) (Shut (i + 1)) (Word i (scan ends_word s i))))) None

-- the token at a place, spaces before it passed over
unfoldable pub token_at : List ℕ → ℕ → Option Token
token_at s at = token_on s (scan not_space s at)

-- the words that are left at a token: the one that it is and those behind it; none where there is no token
unfoldable pub token_words : List ℕ → Option Token → List (List ℕ)
token_words s None = []
token_words s (Some (Open next)) = opening ∷ line_words (drop next s)
token_words s (Some (Shut next)) = closing ∷ line_words (drop next s)
token_words s (Some (Word from to)) = take (to - from) (drop from s) ∷ line_words (drop to s)
