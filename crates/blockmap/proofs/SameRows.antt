-- Block maps with the same rows set are the same: a contract that gives every row of a map gives the map. Assumes nothing.
use Prim.Native.Nat.{ℕ, zero, suc, ◌+◌, ◌*◌, ◌/◌, ◌%◌, ◌^◌, ◌≤◌, ◌<◌}
use mathlib.Core.Path.{◌≡◌, ap, sym, ◌∙◌}
use mathlib.Core.List.{List}
use native.Mathlib.Omega.{arith}
use native.Mathlib.Nat.{div-one}
use lib.ListN.{get_or, length}
use lib.Seq.{ext_get_or}
use lib.Dec.{eqb}
use lib.Pow.{shr-shr}
use borrow.Author.Tests.{eqb-true, eqb-false}
use Rattle.lists.proofs.Cases.{by_test}
use Rattle.blockmap.specs.Bits.{is_set}

-- numbers of n bits are equal if each bit is
bits_same : (n x y : ℕ) → x < 2 ^ n → y < 2 ^ n → ((b : ℕ) → b < n → x / 2 ^ b % 2 ≡ y / 2 ^ b % 2) → x ≡ y
bits_same zero x y h k f = omega arith
bits_same (suc n) x y h k f =
    let low : x % 2 ≡ y % 2 = rw (div-one x, div-one y) at (f 0 (omega arith)) in
    let high : x / 2 ≡ y / 2 =
    bits_same n (x / 2) (y / 2) (omega arith) (omega arith)
    (λ b l. ap (λ z. z % 2) (shr-shr x 1 b) ∙ f (1 + b) (omega arith) ∙ sym (ap (λ z. z % 2) (shr-shr y 1 b))) in
    omega arith

-- two bits are equal if both or neither is 1
bit_equal : (a b : ℕ) → a < 2 → b < 2 → eqb a 1 ≡ eqb b 1 → a ≡ b
bit_equal a b h k e =
    by_test (eqb a 1)
    (λ t. let p : a ≡ 1 = eqb-true a 1 t in let q : b ≡ 1 = eqb-true b 1 (sym e ∙ t) in omega arith)
    (λ t. let p : a ≡ 1 → ⊥ = eqb-false a 1 t in let q : b ≡ 1 → ⊥ = eqb-false b 1 (sym e ∙ t) in omega arith)

pub same_rows : (xs ys : List ℕ) → length xs ≡ 16 → length ys ≡ 16
    → ((i : ℕ) → i < 16 → get_or xs i 0 < 2 ^ 64) → ((i : ℕ) → i < 16 → get_or ys i 0 < 2 ^ 64)
    → ((row : ℕ) → 1 ≤ row → row ≤ 1024 → is_set xs row ≡ is_set ys row) → xs ≡ ys
unfolding is_set
same_rows xs ys l m f g s =
    ext_get_or 0 xs ys (l ∙ sym m)
    (λ i h.
    let j : i < 16 = omega arith in
    bits_same 64 (get_or xs i 0) (get_or ys i 0) (f i j) (g i j)
    (λ b k.
    let w : (i * 64 + b) / 64 ≡ i = omega arith in
    let r : (i * 64 + b) % 64 ≡ b = omega arith in
    bit_equal (get_or xs i 0 / 2 ^ b % 2) (get_or ys i 0 / 2 ^ b % 2) (omega arith) (omega arith)
    (rw (w, r) at (s (suc (i * 64 + b)) (omega arith) (omega arith)))))
