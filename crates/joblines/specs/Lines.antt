-- The lines of a job's fixed text in the parts that the writers write.
use Rattle.std.specs.Prelude.{ℕ, List, [], ◌∷◌, ◌++◌, Option, None, Some}
use Rattle.text.specs.Digits.{digits}

-- a line and its byte 10
abbrev pub ended : List ℕ → List ℕ
ended l = l ++ (10 ∷ [])

-- two numbers, each behind a space
abbrev pub two_text : ℕ → ℕ → List ℕ
two_text a b = (32 ∷ digits a) ++ (32 ∷ digits b)

-- a number behind a space, or nothing
unfoldable pub optional_text : Option ℕ → List ℕ
optional_text None = []
optional_text (Some x) = 32 ∷ digits x
