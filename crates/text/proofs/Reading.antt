-- The laws of a number that is read digit by digit, of at most six. Assumes nothing.
use mathlib.Core.Path.{◌≡◌, refl, ◌∙◌}
use mathlib.Core.Bool.{true, false, and-false}
use mathlib.Core.List.{List}
use Rattle.std.specs.Prelude.{None, Some}
use Prim.Native.Nat.{ℕ, ◌+◌, ◌-◌, ◌*◌, ◌≤◌, ◌<◌, ◌^◌}
use native.Mathlib.Omega.{arith}
use native.Mathlib.Numerals.{add-one}
use native.Mathlib.Nat.{pow-suc, pow-le-pow_right}
use lib.ListN.{length, get_or, drop, drop_of_length-le}
use lib.Seq.{drop-cons}
use lib.Dec.{lit≤}
use borrow.Author.Tests.{le-leb, lt-leb}
use Rattle.lists.specs.Lists.{all_of}
use Rattle.text.specs.Digits.{is_digit, value_from, number}

-- what holds after i bytes of s: v is their value, and the rest decides
pub record Sofar (s : List ℕ) (v i : ℕ) : Type 0 where
  pub within : i ≤ length s
  pub bound : v < 10 ^ i
  pub digits : all_of is_digit s ≡ all_of is_digit (drop i s)
  pub value : value_from 0 s ≡ value_from v (drop i s)

pub sofar_none : (s : List ℕ) → Sofar s 0 0
sofar_none s = record { within = omega arith; bound = omega arith; digits = refl; value = refl }

pub sofar_more : {s : List ℕ} {v i : ℕ} → Sofar s v i → i < length s → 48 ≤ get_or s i 0 → get_or s i 0 ≤ 57 → Sofar s (v * 10 + (get_or s i 0 - 48)) (i + 1)
unfolding all_of value_from
sofar_more {s} {v} {i} n h a b =
    record {
      within = omega arith;
      bound = rw (add-one i) (omega (arith, pow-suc 10 i));
      digits = n.digits ∙ rw (drop-cons s i 0 h, le-leb 48 (get_or s i 0) a, le-leb (get_or s i 0) 57 b, add-one i);
      value = n.value ∙ rw (drop-cons s i 0 h, add-one i);
    }

-- no sum overflows: what is there after less than six digits is below 100,000
pub value_fits : {s : List ℕ} {v i : ℕ} → Sofar s v i → i ≤ 5 → v < 100000
value_fits n h = omega (arith, pow-le-pow_right {n = 10} (lit≤ tt) h)

-- the answers

pub number_empty : (most : ℕ) (s : List ℕ) → length s ≡ 0 → number most s ≡ None
unfolding number
number_empty most s h = rw (lt-leb 1 (length s) (omega arith))

pub number_long : (most : ℕ) (s : List ℕ) → most < length s → number most s ≡ None
unfolding number
number_long most s h = simp (lt-leb (length s) most h, and-false)

pub number_below : (most : ℕ) {s : List ℕ} {v i : ℕ} → Sofar s v i → i < length s → get_or s i 0 < 48 → number most s ≡ None
unfolding all_of number
number_below most {s} {v} {i} n h a =
    let e : all_of is_digit s ≡ false = n.digits ∙ rw (drop-cons s i 0 h, lt-leb 48 (get_or s i 0) a) in simp (e, and-false)

pub number_above : (most : ℕ) {s : List ℕ} {v i : ℕ} → Sofar s v i → i < length s → 57 < get_or s i 0 → number most s ≡ None
unfolding all_of number
number_above most {s} {v} {i} n h a =
    let e : all_of is_digit s ≡ false = n.digits ∙ rw (drop-cons s i 0 h, lt-leb (get_or s i 0) 57 a, and-false) in simp (e, and-false)

pub number_whole : (most : ℕ) {s : List ℕ} {v i : ℕ} → Sofar s v i → length s ≤ i → 1 ≤ length s → length s ≤ most → number most s ≡ Some v
unfolding all_of number value_from
number_whole most {s} {v} {i} n h a b =
    let d : all_of is_digit s ≡ true = n.digits ∙ rw (drop_of_length-le s h) in
    let e : value_from 0 s ≡ v = n.value ∙ rw (drop_of_length-le s h) in
    rw (le-leb 1 (length s) a, le-leb (length s) most b, d, e)
