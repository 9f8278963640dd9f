-- Number and line determine a refusal. Assumes nothing.
use Prim.Native.Nat.{ℕ, ◌<◌}
use mathlib.Core.Path.{◌≡◌, refl, sym, ◌∙◌}
use mathlib.Core.List.{[], ◌∷◌}
use native.Mathlib.Omega.{arith}
use lib.ListN.{get_or}
use Rattle.jobfile.specs.declared.Refusal.{Refusal}
use Rattle.jobfile.specs.declared.Refusal.TheVariants.{TooLong, NotOfForm, OutOfRange, TooMany, NumberNotAbove, PinUsed, SameRow, NoLength, TooFewRows}
use Rattle.jobfile.specs.Answers.{number_of, line_of}

-- the refusal of a number and a line
abbrev by_number : ℕ → ℕ → Refusal
by_number i k =
    get_or
    (TooLong ∷ TooLong ∷ NotOfForm k ∷ OutOfRange k ∷ TooMany k ∷ NumberNotAbove k ∷ PinUsed k ∷ SameRow k ∷ NoLength k ∷
    TooFewRows k ∷ [])
    i TooLong

refusal_of : (o : Refusal) → by_number (number_of o) (line_of o) ≡ o
refusal_of TooLong = refl
refusal_of (NotOfForm k) = refl
refusal_of (OutOfRange k) = refl
refusal_of (TooMany k) = refl
refusal_of (NumberNotAbove k) = refl
refusal_of (PinUsed k) = refl
refusal_of (SameRow k) = refl
refusal_of (NoLength k) = refl
refusal_of (TooFewRows k) = refl

pub same_refusal : (o p : Refusal) → number_of o ≡ number_of p → line_of o ≡ line_of p → o ≡ p
same_refusal o p i k = sym (refusal_of o) ∙ (rw (i, k) (refusal_of p))

number_range : (o : Refusal) → (0 < number_of o) × (number_of o < 10)
number_range TooLong = (omega arith, omega arith)
number_range (NotOfForm k) = (omega arith, omega arith)
number_range (OutOfRange k) = (omega arith, omega arith)
number_range (TooMany k) = (omega arith, omega arith)
number_range (NumberNotAbove k) = (omega arith, omega arith)
number_range (PinUsed k) = (omega arith, omega arith)
number_range (SameRow k) = (omega arith, omega arith)
number_range (NoLength k) = (omega arith, omega arith)
number_range (TooFewRows k) = (omega arith, omega arith)

pub number_below : (o : Refusal) → number_of o < 10
number_below o = (number_range o).1

pub number_above : (o : Refusal) → 0 < number_of o
number_above o = (number_range o).0
