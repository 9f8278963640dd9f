-- The line of a broken layout: its parts and its length. Assumes nothing.
use Rattle.std.specs.Prelude.{Err}
use Prim.Native.Nat.{ℕ, zero, suc, ◌+◌}
use mathlib.Core.Path.{◌≡◌, refl, ap, ◌∙◌}
use mathlib.Core.Bool.{Bool}
use mathlib.Core.List.{List, [], ◌∷◌, ◌++◌, append_assoc}
use native.Mathlib.Omega.{arith}
use lib.ListN.{length, length-append}
use Rattle.text.specs.Digits.{digits}
use Rattle.text.specs.Written.{Written}
use Rattle.reader.specs.Reports.{refused_text}
use Rattle.checker.specs.declared.CheckError.{CheckError}
use Rattle.checker.specs.declared.CheckError.TheVariants.{Refused, LayoutTooLong, Broken}
use Rattle.jobfile.proofs.RefusalNumbers.{number_above}
use Rattle.checker.specs.Answers.{check_values}
use Rattle.verdicts.specs.Verdicts.{broken_text, verdict_line, check_text}

-- "(broken"
abbrev pub broken_head : List ℕ
broken_head = 40 ∷ 98 ∷ 114 ∷ 111 ∷ 107 ∷ 101 ∷ 110 ∷ []

-- ")" and byte 10
abbrev pub line_foot : List ℕ
line_foot = 41 ∷ 10 ∷ []

pub broken_parts : (l : ℕ) → broken_text l ≡ broken_head ++ (32 ∷ digits l) ++ line_foot
unfolding broken_text
broken_parts l = simp append_assoc

pub broken_length : (l : ℕ) → length (broken_text l) ≡ 10 + length (digits l)
broken_length l = ap length (broken_parts l) ∙ simp length-append (omega arith)

-- which line is written
pub refusal_line : (n : ℕ) (b : Bool) (l : ℕ) → (n ≡ 0 → ⊥) → refused_text n l ≡ verdict_line n b l
unfolding verdict_line
refusal_line zero b l h = absurd (h refl)
refusal_line (suc n) b l h = refl

-- a text written is written under another name
pub written_as : {v w s t : List ℕ} {r : ℕ} → v ≡ w → Written v s t r → Written w s t r
written_as e x = rw e at x

-- what is no broken layout is refused with a number
refused_number : (e : CheckError) → ((l : ℕ) → e ≡ Broken l → ⊥) → (check_values (Err e)).number ≡ 0 → ⊥
refused_number (Refused o) d = λ z. omega (arith, z, number_above o)
refused_number LayoutTooLong d = λ z. omega (arith, z)
refused_number (Broken l) d = absurd (d l refl)

-- what is printed where there is a refusal
pub refused_is : (e : CheckError) {n l : ℕ} → ((k : ℕ) → e ≡ Broken k → ⊥) → n ≡ (check_values (Err e)).number → l ≡ (check_values (Err e)).line →
    refused_text n l ≡ check_text (Err e)
refused_is e d g h = rw (g, h) (refusal_line _ _ _ (refused_number e d))
