-- The laws of decimal digits: how many they are, what they stand for, and that reading what was written gives it back. Assumes nothing.
use mathlib.Core.Path.{◌≡◌, refl, sym, ap, ◌∙◌}
use mathlib.Core.Bool.{Bool, true}
use mathlib.Core.List.{List, [], ◌∷◌, ◌++◌, append_assoc, append-nil}
use Rattle.std.specs.Prelude.{Some}
use Prim.Native.Nat.{ℕ, zero, suc, ◌+◌, ◌-◌, ◌*◌, ◌/◌, ◌%◌, ◌≤◌, ◌<◌, ◌^◌}
use native.Mathlib.Omega.{arith}
use native.Mathlib.Decide.{dec_lt}
use native.Mathlib.Nat.{pow-suc}
use lib.ListN.{length, get_or, length-append, get_or-append}
use lib.Dec.{leb}
use borrow.Author.Tests.{lt-ltb, le-ltb, le-leb, leb-true}
use Rattle.lists.specs.Lists.{all_of}
use Rattle.lists.proofs.Cases.{and_split}
use Rattle.text.specs.Digits.{digits_in, digits, lead, is_digit, value_from, number}
use Rattle.lists.proofs.Joins.{all_of_append}
use Rattle.text.proofs.Bytes.{}

-- a number below 10 has one digit; any other has those of its tenth and one more

small_in : (k n : ℕ) → n < 10 → digits_in k n ≡ (48 + n) ∷ []
unfolding digits_in
small_in zero n h = refl
small_in (suc k) n h = simp (lt-ltb n 10 h)

large_in : (k n : ℕ) → 10 ≤ n → digits_in (suc k) n ≡ digits_in k (n / 10) ++ ((48 + n % 10) ∷ [])
unfolding digits_in
large_in k n h = simp (le-ltb n 10 h)

enough : (j k n : ℕ) → n ≤ j → n ≤ k → digits_in j n ≡ digits_in k n
enough zero k n a b = small_in zero n (omega arith) ∙ sym (small_in k n (omega arith))
enough (suc j) zero n a b = small_in (suc j) n (omega arith) ∙ sym (small_in zero n (omega arith))
enough (suc j) (suc k) n a b =
    elim (dec_lt n 10) [
      | yes h ↦ small_in (suc j) n h ∙ sym (small_in (suc k) n h)
      | no h ↦ rw (large_in j n (omega arith), large_in k n (omega arith), enough j k (n / 10) (omega arith) (omega arith))
    ]

pub digits_small : (n : ℕ) → n < 10 → digits n ≡ (48 + n) ∷ []
unfolding digits
digits_small n h = small_in n n h

pub digits_large : (n : ℕ) → 10 ≤ n → digits n ≡ digits (n / 10) ++ ((48 + n % 10) ∷ [])
unfolding digits
digits_large zero h = absurd (omega arith)
digits_large (suc m) h = rw (large_in m (suc m) h, enough m (suc m / 10) (suc m / 10) (omega arith) (omega arith))

-- what holds of every number below 10, and of a number where it holds of its tenth, holds of all
tenths_below : (P : ℕ → Type 0) → ((n : ℕ) → n < 10 → P n) → ((n : ℕ) → 10 ≤ n → P (n / 10) → P n) → (k n : ℕ) → n ≤ k → P n
tenths_below P small large zero n h = small n (omega arith)
tenths_below P small large (suc k) n h =
    elim (dec_lt n 10) [
      | yes a ↦ small n a
      | no a ↦ large n (omega arith) (tenths_below P small large k (n / 10) (omega arith))
    ]

pub tenths : (P : ℕ → Type 0) → ((n : ℕ) → n < 10 → P n) → ((n : ℕ) → 10 ≤ n → P (n / 10) → P n) → (n : ℕ) → P n
tenths P small large n = tenths_below P small large n n (omega arith)

-- the value of the digits of n is n

pub value_append : (acc : ℕ) (s t : List ℕ) → value_from acc (s ++ t) ≡ value_from (value_from acc s) t
unfolding value_from
value_append acc [] t = refl
value_append acc (b ∷ s) t = value_append (value_from acc (b ∷ [])) s t

pub value_digits : (n : ℕ) → value_from 0 (digits n) ≡ n
unfolding value_from
value_digits =
    tenths (λ n. value_from 0 (digits n) ≡ n)
    (λ n h. rw (digits_small n h) (omega arith))
    (λ n h e. rw (digits_large n h, value_append, e) (omega arith))

pub digits_injective : (m n : ℕ) → digits m ≡ digits n → m ≡ n
digits_injective m n e = sym (value_digits m) ∙ ap (value_from 0) e ∙ value_digits n

-- a test that the ten digits pass is passed by every byte of a number; each of them is a digit

pub all_of_digits : (f : ℕ → Bool) → ((d : ℕ) → d < 10 → f (48 + d) ≡ true) → (n : ℕ) → all_of f (digits n) ≡ true
unfolding all_of
all_of_digits f h =
    tenths (λ n. all_of f (digits n) ≡ true)
    (λ n a. rw (digits_small n a, h n a))
    (λ n a e. rw (digits_large n a, all_of_append, e, h (n % 10) (omega arith)))

pub digit_byte : (d : ℕ) → d < 10 → is_digit (48 + d) ≡ true
digit_byte d h = simp (le-leb 48 (48 + d) (omega arith), le-leb (48 + d) 57 (omega arith))

pub digits_are_digits : (n : ℕ) → all_of is_digit (digits n) ≡ true
digits_are_digits = all_of_digits is_digit digit_byte

-- the number of digits: one at least, and k at most below the k-th power of 10

pub some_digits : (n : ℕ) → 1 ≤ length (digits n)
some_digits n =
    elim (dec_lt n 10) [
      | yes a ↦ rw (digits_small n a) (omega arith)
      | no a ↦ rw (digits_large n (omega arith), length-append) (omega arith)
    ]

pub length_digits : (k n : ℕ) → n < 10 ^ suc k → length (digits n) ≤ suc k
length_digits zero n h = rw (digits_small n (omega arith)) (omega arith)
length_digits (suc k) n h =
    elim (dec_lt n 10) [
      | yes a ↦ rw (digits_small n a) (omega arith)
      | no a ↦ rw (digits_large n (omega arith), length-append) (omega (arith, length_digits k (n / 10) (omega (arith, pow-suc 10 (suc k)))))
    ]

-- no leading zero: the first digit of a number from 1 on is not 0
pub first_not_zero : (n : ℕ) → 1 ≤ n → 49 ≤ get_or (digits n) 0 0
first_not_zero =
    tenths (λ n. 1 ≤ n → 49 ≤ get_or (digits n) 0 0)
    (λ n a h. rw (digits_small n a) (omega arith))
    (λ n a e h. rw (digits_large n a, get_or-append (digits (n / 10)) ((48 + n % 10) ∷ []) 0 0 (some_digits (n / 10))) (e (omega arith)))

-- reading what was written gives it back
pub number_digits : (k n : ℕ) → n < 10 ^ suc k → number (suc k) (digits n) ≡ Some n
unfolding number
number_digits k n h =
    simp (le-leb 1 (length (digits n)) (some_digits n), le-leb (length (digits n)) (suc k) (length_digits k n h), digits_are_digits n, value_digits n)

-- and back: digits without a leading zero are what is written for their value

more_digits : (acc : ℕ) (w : List ℕ) → 1 ≤ acc → all_of is_digit w ≡ true → digits (value_from acc w) ≡ digits acc ++ w
unfolding value_from all_of
more_digits acc [] h a = sym (append-nil (digits acc))
more_digits acc (b ∷ w) h a =
    let p = and_split (is_digit b) (all_of is_digit w) a in
    let q = and_split (leb 48 b) (leb b 57) p.0 in
    let l : 48 ≤ b = leb-true 48 b q.0 in
    let u : b ≤ 57 = leb-true b 57 q.1 in
    let t : (acc * 10 + (b - 48)) / 10 ≡ acc = omega arith in
    let d : 48 + (acc * 10 + (b - 48)) % 10 ≡ b = omega arith in
    more_digits (acc * 10 + (b - 48)) w (omega arith) p.1
    ∙ (rw (digits_large (acc * 10 + (b - 48)) (omega arith), t, d, append_assoc))

pub digits_value : (b : ℕ) (w : List ℕ) → 49 ≤ b → all_of is_digit (b ∷ w) ≡ true → digits (value_from 0 (b ∷ w)) ≡ b ∷ w
unfolding value_from all_of
digits_value b w h a =
    let p = and_split (is_digit b) (all_of is_digit w) a in
    let q = and_split (leb 48 b) (leb b 57) p.0 in
    let u : b ≤ 57 = leb-true b 57 q.1 in
    let d : 48 + (b - 48) ≡ b = omega arith in
    let z : 0 * 10 + (b - 48) ≡ b - 48 = omega arith in
    rw z (more_digits (b - 48) w (omega arith) p.1 ∙ (rw (digits_small (b - 48) (omega arith), d)))

-- the start of a number is the digits of m, or nothing if m is 0: the start of a tenth and one more digit

unfoldable pub start : ℕ → List ℕ
start zero = []
start (suc m) = digits (suc m)

start_some : (m : ℕ) → 1 ≤ m → start m ≡ digits m
unfolding start
start_some zero h = absurd (omega arith)
start_some (suc m) h = refl

pub start_last : (n : ℕ) → start (n / 10) ++ ((48 + n % 10) ∷ []) ≡ digits n
unfolding start
start_last n =
    elim (dec_lt n 10) [
      | yes h ↦
          let e : n / 10 ≡ 0 = omega arith in
          let d : n % 10 ≡ n = omega arith in
          rw (e, d, digits_small n h)
      | no h ↦ rw (start_some (n / 10) (omega arith), digits_large n (omega arith))
    ]

pub lead_some : (n : ℕ) → 1 ≤ n → lead n ≡ (48 + n % 10) ∷ []
unfolding lead
lead_some zero h = absurd (omega arith)
lead_some (suc m) h = refl

pub start_lead : (m : ℕ) → start (m / 10) ++ lead m ≡ start m
unfolding lead start
start_lead zero = refl
start_lead (suc m) = start_last (suc m)
