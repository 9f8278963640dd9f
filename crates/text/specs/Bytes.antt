-- Texts as lists of bytes: equality, the pieces between separators, the lines of a text.
use Rattle.std.specs.Prelude.{Bool, true, false, cond, not, ◌&&◌, ◌||◌, List, [], ◌∷◌, ℕ, eqb}
use Prim.Native.Char.{code}
use Prim.Native.String as S

-- the bytes of a text of ASCII characters
abbrev pub bytes : S.String → List ℕ
bytes S.[] = []
bytes (S.◌∷◌ c s) = code c ∷ bytes s

-- the same bytes
unfoldable pub same : List ℕ → List ℕ → Bool
same [] [] = true
same [] (b ∷ t) = false
same (a ∷ s) [] = false
same (a ∷ s) (b ∷ t) = eqb a b && same s t

-- a byte put before the first piece; where there is none, it is a piece of its own
unfoldable pub joined : ℕ → List (List ℕ) → List (List ℕ)
joined b [] = (b ∷ []) ∷ []
joined b (p ∷ ps) = (b ∷ p) ∷ ps

-- the pieces of a text that end at a byte for which f holds; a last piece without such a byte is one if it is not empty
unfoldable pub pieces : (ℕ → Bool) → List ℕ → List (List ℕ)
pieces f [] = []
pieces f (b ∷ bs) = let ps = pieces f bs in cond (f b) ([] ∷ ps) (joined b ps)

-- the pieces that are not empty
unfoldable pub non_empty : List (List ℕ) → List (List ℕ)
non_empty [] = []
non_empty ([] ∷ ps) = non_empty ps
non_empty ((b ∷ bs) ∷ ps) = (b ∷ bs) ∷ non_empty ps

-- byte 10 ends a line
abbrev pub is_end : ℕ → Bool
is_end b = eqb b 10

-- byte 32 alone is a space
abbrev pub is_space : ℕ → Bool
is_space b = eqb b 32

-- any byte but a space
abbrev pub not_space : ℕ → Bool
not_space b = not (is_space b)

-- ( or )
abbrev pub is_bracket : ℕ → Bool
is_bracket b = eqb b 40 || eqb b 41

-- a space or a bracket ends a word
abbrev pub ends_word : ℕ → Bool
ends_word b = is_space b || is_bracket b

-- the lines of a text, without their byte 10: a line ends at byte 10, and a last piece without it, if not empty, is a line
abbrev pub lines : List ℕ → List (List ℕ)
lines s = pieces is_end s
