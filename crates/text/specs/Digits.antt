-- Decimal numbers as bytes: how one is written, and how a word of one to a given number of digits is read.
use Rattle.std.specs.Prelude.{Bool, cond, ◌&&◌, List, [], ◌∷◌, ◌++◌, ℕ, zero, suc, ◌+◌, ◌-◌, ◌*◌, ◌/◌, ◌%◌, length, leb, ltb, Option, None, Some}
use Rattle.lists.specs.Lists.{all_of}

-- the digits of n, where k bounds how often n is divided; k = n is always enough
unfoldable pub digits_in : ℕ → ℕ → List ℕ
digits_in zero n = (48 + n) ∷ []
digits_in (suc k) n = let more = digits_in k (n / 10) ++ ((48 + n % 10) ∷ []) in cond (ltb n 10) ((48 + n) ∷ []) more

-- the decimal digits of n, most significant first, no leading zero; 0 is the one digit 0
unfoldable pub digits : ℕ → List ℕ
digits n = digits_in n n

-- the last digit of n, or nothing if n is 0, so that no zero leads a number
unfoldable pub lead : ℕ → List ℕ
lead zero = []
lead (suc m) = (48 + suc m % 10) ∷ []

-- a decimal digit, byte 48 to 57
abbrev pub is_digit : ℕ → Bool
is_digit b = leb 48 b && leb b 57

-- the number that digits stand for, read behind digits that stand for acc
unfoldable pub value_from : ℕ → List ℕ → ℕ
value_from acc [] = acc
value_from acc (b ∷ bs) = value_from (acc * 10 + (b - 48)) bs

-- a word of one to `most` digits is a number, leading zeros or not
unfoldable pub number : ℕ → List ℕ → Option ℕ
number most w = cond (leb 1 (length w) && leb (length w) most && all_of is_digit w) (Some (value_from 0 w)) None
