-- What the lines of a job's fixed text and of a layout share: how an inner line begins, one that has one number, the first line, the
-- last.
use Rattle.std.specs.Prelude.{List, [], ◌∷◌, ◌++◌, ℕ}
use Rattle.text.specs.Digits.{digits}
use Rattle.keywords.specs.Keywords.{word_of}
use Rattle.keywords.specs.declared.Vocabulary.{Vocabulary}

-- how an inner line begins: " (word number", with the word at place i of its table
unfoldable pub head_text : Vocabulary → ℕ → ℕ → List ℕ
head_text v i n = (32 ∷ 40 ∷ []) ++ (word_of v i ++ (32 ∷ digits n))

-- an inner line with one number, " (word number)", with its byte 10
abbrev pub number_text : Vocabulary → ℕ → ℕ → List ℕ
number_text v i n = head_text v i n ++ (41 ∷ 10 ∷ [])

-- the first line of a text, "(word", with the first word of its table, and the last, ")", each with its byte 10
unfoldable pub opening_text : Vocabulary → List ℕ
opening_text v = (40 ∷ []) ++ (word_of v 0 ++ (10 ∷ []))

abbrev pub closing_text : List ℕ
closing_text = 41 ∷ 10 ∷ []
