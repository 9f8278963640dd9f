-- The flags part after part: a part lent and given back, what stands in each part afterwards, and the length. Assumes nothing.
use Prim.Native.Nat.{ℕ, ◌+◌, ◌*◌, ◌-◌, ◌≤◌, ◌<◌}
use mathlib.Core.Path.{◌≡◌, sym, ◌∙◌}
use mathlib.Core.Bool.{true, false}
use mathlib.Core.List.{List, ◌++◌}
use native.Mathlib.Omega.{arith}
use lib.ListN.{length, get_or, take, drop, length-drop, get_or-append}
use lib.Seq.{length-take-le, get_or-append-add, get_or-take}
use borrow.Rule.Slice.PartMut.{mid_of, put_mid, same_len_mid}
use Rattle.blockmap.specs.Bits.{is_set}
use Rattle.blockmap.specs.Clear.{all_unset, flag_tops}
use Rattle.blockmap.proofs.ClearRows.{clear_of}
use Rattle.blockmap.proofs.ClearTops.{flags_same}
use Rattle.candidates.specs.Gathered.{on_part}

-- a part that was lent, and given back with f done to it
pub part_back : (i : ℕ) (f : List ℕ → List ℕ) (bytes part : List ℕ) → part ≡ f (mid_of (i * 1024) (i * 1024 + 1024 - i * 1024) bytes)
    → put_mid (i * 1024) (i * 1024 + 1024 - i * 1024) bytes part ≡ on_part i f bytes
unfolding on_part
part_back i f bytes part e =
    let n : i * 1024 + 1024 - i * 1024 ≡ 1024 = omega arith in
    rw (e, n)

-- where no row is set, every top is clear
pub all_clear : (words : List ℕ) (m first k : ℕ) (flags : List ℕ) → ((row : ℕ) → is_set words row ≡ false)
    → flag_tops (λ top. true) first k flags ≡ flag_tops (λ top. all_unset words top m) first k flags
all_clear words m first k flags h =
    flags_same (λ top. true) (λ top. all_unset words top m) first k flags (λ top a b. sym (clear_of words top m (λ row p q. h row)))

-- the same done to a part in two ways
pub part_same : (i : ℕ) (f g : List ℕ → List ℕ) (bytes : List ℕ) → ((part : List ℕ) → f part ≡ g part) → on_part i f bytes ≡ on_part i g bytes
unfolding on_part
part_same i f g bytes h = rw (h (take 1024 (drop (i * 1024) bytes)))

behind : (xs ys : List ℕ) (a j : ℕ) → length xs ≡ a → get_or (xs ++ ys) (a + j) 0 ≡ get_or ys j 0
behind xs ys a j l = rw (← l) (get_or-append-add xs ys j 0)

module _ (i : ℕ) (f : List ℕ → List ℕ) (bytes : List ℕ) (keeps : (part : List ℕ) → length (f part) ≡ length part) (room : i * 1024 + 1024 ≤ length bytes) where
  before_length : length (take (i * 1024) bytes) ≡ i * 1024
  before_length = length-take-le (i * 1024) bytes (omega arith)

  part_size : length (f (take 1024 (drop (i * 1024) bytes))) ≡ 1024
  part_size = keeps (take 1024 (drop (i * 1024) bytes)) ∙ length-take-le 1024 (drop (i * 1024) bytes) (omega (arith, length-drop (i * 1024) bytes))

  pub part_length : length (on_part i f bytes) ≡ length bytes
  unfolding on_part
  part_length = same_len_mid (i * 1024) 1024 bytes (f (take 1024 (drop (i * 1024) bytes))) (keeps (take 1024 (drop (i * 1024) bytes)))

  -- a byte of the part
  pub part_at : (j : ℕ) → j < 1024 → get_or (on_part i f bytes) (i * 1024 + j) 0 ≡ get_or (f (take 1024 (drop (i * 1024) bytes))) j 0
  unfolding on_part
  part_at j h =
      let part = f (take 1024 (drop (i * 1024) bytes)) in
      let rest = drop 1024 (drop (i * 1024) bytes) in
      let l : j < length part = omega (arith, part_size) in
      behind (take (i * 1024) bytes) (part ++ rest) (i * 1024) j before_length ∙ get_or-append part rest 0 j l

  -- a byte of a part before it
  pub part_below : (j : ℕ) → j < i * 1024 → get_or (on_part i f bytes) j 0 ≡ get_or bytes j 0
  unfolding on_part
  part_below j h =
      let part = f (take 1024 (drop (i * 1024) bytes)) in
      let rest = drop 1024 (drop (i * 1024) bytes) in
      let l : j < length (take (i * 1024) bytes) = omega (arith, before_length) in
      get_or-append (take (i * 1024) bytes) (part ++ rest) 0 j l ∙ get_or-take (i * 1024) bytes j 0 h
