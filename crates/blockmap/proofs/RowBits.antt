-- Shift and mask test the bit of a row, and set it: that row is then blocked, and every other as it was. Assumes nothing.
use Prim.Native.Nat.{ℕ, zero, suc, ◌+◌, ◌*◌, ◌-◌, ◌/◌, ◌%◌, ◌^◌, ◌≤◌, ◌<◌}
use mathlib.Core.Path.{◌≡◌, refl, ap}
use mathlib.Core.Bool.{false, ◌||◌}
use mathlib.Core.List.{List}
use native.Mathlib.Omega.{arith}
use native.Mathlib.Nat.{div-eq_of_lt, mul-mod_left}
use lib.ListN.{get_or, set, length, replicate}
use lib.Seq.{get_or-set_same, get_or-set_other}
use lib.Dec.{eqb, ltb}
use lib.Pow.{pow_pos, pow-lt, pow-add, shl_exact, shl-shr}
use lib.Bits.{bit_and, bit_or, and_mask, or_shr, or_mod, or_zero_r}
use borrow.Author.Tests.{ne_eqb, ltb-true, ltb-false, eqb-true, eqb-false}
use Rattle.lists.proofs.Cases.{by_test}
use Rattle.blockmap.specs.Bits.{is_set}

-- `1 << b` in 64 bits is 2 ^ b
mask_exact : (b : ℕ) → b < 64 → 1 * 2 ^ b % 2 ^ 64 ≡ 1 * 2 ^ b
mask_exact b h = shl_exact 1 b 64 (omega arith) (omega arith)

-- every other bit of the mask is 0
mask_other : (b i : ℕ) → (i ≡ b → ⊥) → 1 * 2 ^ b / 2 ^ i % 2 ≡ 0
mask_other b i n =
    by_test (ltb i b)
    (λ t.
    let l : i < b = ltb-true i b t in
    let d = b - i - 1 in
    let e : b ≡ d + 1 + i = omega arith in
    let p : 1 * 2 ^ b ≡ 2 ^ d * 2 * 2 ^ i = omega (arith, ap (λ n. 2 ^ n) e, pow-add 2 (d + 1) i, ap (λ n. n * 2 ^ i) (pow-add 2 d 1)) in
    rw (p, shl-shr) (mul-mod_left (2 ^ d) 2))
    (λ t.
    let l : b ≤ i = ltb-false i b t in
    let s : 1 * 2 ^ b < 2 ^ i = omega (arith, pow-lt {i = b} {j = i} (omega arith)) in
    rw (div-eq_of_lt s))

or_one : (m : ℕ) → m < 2 → bit_or m 1 ≡ 1
or_one zero h = refl
or_one (suc zero) h = refl
or_one (suc (suc m)) h = omega arith

bit_same : (x b : ℕ) → bit_or x (1 * 2 ^ b) / 2 ^ b % 2 ≡ 1
bit_same x b = rw (or_shr, shl-shr, or_mod (x / 2 ^ b) 1 1) (or_one (x / 2 ^ b % 2) (omega arith))

bit_other : (x b i : ℕ) → (i ≡ b → ⊥) → bit_or x (1 * 2 ^ b) / 2 ^ i % 2 ≡ x / 2 ^ i % 2
bit_other x b i n = rw (or_shr, or_mod (x / 2 ^ i) (1 * 2 ^ b / 2 ^ i) 1, mask_other b i n) (or_zero_r (x / 2 ^ i % 2))

-- the word of a row, shifted and masked, tells whether the row is set
pub row_tested : (words : List ℕ) (row : ℕ) → 1 ≤ row
    → eqb (bit_and (get_or words ((row - 1) / 64) 0 / 2 ^ ((row - 1) % 64)) 1) 1 ≡ is_set words row
unfolding is_set
row_tested words zero h = absurd (omega arith)
row_tested words (suc i) h =
    let e : suc i - 1 ≡ i = omega arith in
    rw (e, and_mask (get_or words (i / 64) 0 / 2 ^ (i % 64)) 1)

-- the words after the bit with index `at` is set, as the code writes them
unfoldable pub with_bit : List ℕ → ℕ → List ℕ
with_bit words at = set words (at / 64) (bit_or (get_or words (at / 64) 0) (1 * 2 ^ (at % 64) % 2 ^ 64))

module _ (words : List ℕ) (at : ℕ) where
  bit_at : at / 64 < length words → get_or (with_bit words at) (at / 64) 0 / 2 ^ (at % 64) % 2 ≡ 1
  unfolding with_bit
  bit_at h =
      rw (mask_exact (at % 64) (omega arith), get_or-set_same words (at / 64) (bit_or (get_or words (at / 64) 0) (1 * 2 ^ (at % 64))) 0 h)
      (bit_same (get_or words (at / 64) 0) (at % 64))

  bit_elsewhere : (i : ℕ) → at / 64 < length words → (i ≡ at → ⊥)
      → get_or (with_bit words at) (i / 64) 0 / 2 ^ (i % 64) % 2 ≡ get_or words (i / 64) 0 / 2 ^ (i % 64) % 2
  unfolding with_bit
  bit_elsewhere i h n =
      let v = bit_or (get_or words (at / 64) 0) (1 * 2 ^ (at % 64)) in
      by_test (eqb (i / 64) (at / 64))
      (λ t.
      let w : i / 64 ≡ at / 64 = eqb-true (i / 64) (at / 64) t in
      let m : i % 64 ≡ at % 64 → ⊥ = λ q. n (omega arith) in
      rw (mask_exact (at % 64) (omega arith), w, get_or-set_same words (at / 64) v 0 h)
      (bit_other (get_or words (at / 64) 0) (at % 64) (i % 64) m))
      (λ t.
      rw (mask_exact (at % 64) (omega arith), get_or-set_other words (at / 64) (i / 64) v 0 (eqb-false (i / 64) (at / 64) t)))

-- one more blocked row
pub row_set : (words : List ℕ) (row : ℕ) → 1 ≤ row → (row - 1) / 64 < length words
    → (k : ℕ) → is_set (with_bit words (row - 1)) k ≡ (eqb k row || is_set words k)
unfolding is_set
row_set words row h l zero = rw (ne_eqb 0 row (λ (e : 0 ≡ row). omega arith))
row_set words row h l (suc i) =
    by_test (eqb (suc i) row)
    (λ t.
    let e : suc i ≡ row = eqb-true (suc i) row t in
    let at : i ≡ row - 1 = omega arith in
    rw (t, at, bit_at words (row - 1) l))
    (λ t.
    let n : i ≡ row - 1 → ⊥ = λ q. eqb-false (suc i) row t (omega arith) in
    rw (t, bit_elsewhere words (row - 1) i l n))

pub get_d_zeros : (n i : ℕ) → get_or {A = ℕ} (replicate n 0) i 0 ≡ 0
get_d_zeros zero i = refl
get_d_zeros (suc n) zero = refl
get_d_zeros (suc n) (suc i) = get_d_zeros n i

zero_div : (n : ℕ) → 0 / 2 ^ n ≡ 0
zero_div n = div-eq_of_lt (pow_pos n)

-- words of zeros block no row
pub none_set : (n k : ℕ) → is_set (replicate n 0) k ≡ false
unfolding is_set
none_set n zero = refl
none_set n (suc i) = rw (get_d_zeros n (i / 64), zero_div (i % 64))
