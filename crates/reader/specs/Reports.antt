-- The line that a reading prints. Document 01, "Operations": `(refused number line)`.
use Rattle.std.specs.Prelude.{List, [], ◌∷◌, ◌++◌, ℕ}
use Rattle.text.specs.Digits.{digits}
use Rattle.jobfile.specs.Read.{Read, accepted, refused}
use Rattle.jobfile.specs.Answers.{number_of, line_of}

-- the line `(refused number line)` and its byte 10
unfoldable pub refused_text : ℕ → ℕ → List ℕ
refused_text number line =
    40 ∷ 114 ∷ 101 ∷ 102 ∷ 117 ∷ 115 ∷ 101 ∷ 100 ∷ 32 ∷ (digits number ++ 32 ∷ (digits line ++ 41 ∷ 10 ∷ []))

-- the line `(accepted)` and its byte 10
abbrev pub accepted_text : List ℕ
accepted_text = 40 ∷ 97 ∷ 99 ∷ 99 ∷ 101 ∷ 112 ∷ 116 ∷ 101 ∷ 100 ∷ 41 ∷ 10 ∷ []

-- what is printed for a text that was read
unfoldable pub report_text : Read → List ℕ
report_text (accepted job) = accepted_text
report_text (refused o) = refused_text (number_of o) (line_of o)
