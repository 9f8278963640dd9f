-- Document 01, "Operations": what the program `check` prints.
use Rattle.std.specs.Prelude.{ℕ, zero, suc, Bool, true, false, List, [], ◌∷◌, ◌++◌, Result}
use Rattle.text.specs.Digits.{digits}
use Rattle.reader.specs.Reports.{refused_text}
use Rattle.checker.specs.declared.CheckError.{CheckError}
use Rattle.checker.specs.Answers.{check_values}

-- (broken line)
unfoldable pub broken_text : ℕ → List ℕ
broken_text line = 40 ∷ 98 ∷ 114 ∷ 111 ∷ 107 ∷ 101 ∷ 110 ∷ 32 ∷ (digits line ++ 41 ∷ 10 ∷ [])

-- (sound)
abbrev pub sound_line : List ℕ
sound_line = 40 ∷ 115 ∷ 111 ∷ 117 ∷ 110 ∷ 100 ∷ 41 ∷ 10 ∷ []

-- by the number of the refusal, whether the layout is broken, and the line that is named: the refusal where there is one, else the broken
-- line, else that the layout is sound
unfoldable pub verdict_line : ℕ → Bool → ℕ → List ℕ
verdict_line (suc n) broken line = refused_text (suc n) line
verdict_line zero true line = broken_text line
verdict_line zero false line = sound_line

-- what is printed for an answer
abbrev pub check_text : Result (Unit {0}) CheckError → List ℕ
check_text a = verdict_line (check_values a).number (check_values a).broken (check_values a).line
