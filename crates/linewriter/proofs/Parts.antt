-- How an inner line begins, and the first line, in the parts that are written one after another. Assumes nothing.
use Prim.Native.Nat.{ℕ, ◌+◌, ◌<◌}
use mathlib.Core.Path.{◌≡◌, refl}
use mathlib.Core.List.{[], ◌∷◌, ◌++◌}
use native.Mathlib.Omega.{arith}
use lib.ListN.{length, length-append}
use Rattle.text.specs.Digits.{digits}
use Rattle.keywords.specs.Keywords.{words, word_of}
use Rattle.linewriter.specs.LineText.{head_text, opening_text}
use Rattle.keywords.specs.declared.Vocabulary.{Vocabulary}
use Rattle.keywords.specs.declared.Vocabulary.TheVariants.{Job, Layout}

pub head_parts : (v : Vocabulary) (i n : ℕ) → head_text v i n ≡ (32 ∷ 40 ∷ []) ++ (word_of v i ++ (32 ∷ digits n))
unfolding head_text
head_parts v i n = refl

pub head_length : (v : Vocabulary) (i n : ℕ) → length (head_text v i n) ≡ 3 + length (word_of v i) + length (digits n)
unfolding head_text
head_length v i n = simp length-append (omega arith)

pub opening_parts : (v : Vocabulary) → opening_text v ≡ (40 ∷ []) ++ (word_of v 0 ++ (10 ∷ []))
unfolding opening_text
opening_parts v = refl

-- each table has a first word
pub some_word : (v : Vocabulary) → 0 < length (words v)
some_word Job = omega arith
some_word Layout = omega arith
