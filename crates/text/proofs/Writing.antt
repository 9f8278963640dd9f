-- The laws of texts written over a buffer, one after the other, each into the rest behind the one before. Assumes nothing.
use mathlib.Core.Path.{◌≡◌, refl, sym, ap, ◌∙◌}
use mathlib.Core.List.{List, [], ◌∷◌, ◌++◌, append_assoc, append-nil}
use Prim.Native.Nat.{ℕ, ◌+◌, ◌-◌, ◌/◌, ◌%◌, ◌≤◌, ◌<◌}
use native.Mathlib.Omega.{arith}
use native.Mathlib.Numerals.{add-one}
use native.Mathlib.Nat.{add_assoc}
use lib.ListN.{length, get_or, take, drop, set, length-append, length-take, length-drop, length-set, drop_of_length-le, take-append-drop}
use lib.Seq.{take_all, set_split, length-take-le, take-append-add, drop-append-add, drop-cons, set-append_seam, append_snoc, take-append_seam, drop-append_seam, drop-drop}
use borrow.Rule.Slice.PartMut.{mid_of, put_mid}
use Rattle.text.specs.Digits.{digits, lead}
use Rattle.text.specs.Written.{over, over_at, Written, WrittenAt}
use Rattle.text.proofs.Numbers.{start, start_last, start_lead, lead_some, digits_large}

-- the length of a list that is put together from parts: simp lengths (omega arith)
pub ruleset lengths = (length-append, length-take, length-drop, length-set)

-- The buffer keeps its length

pub kept : {w s t : List ℕ} {r : ℕ} → Written w s t r → length w ≤ length s → length t ≡ length s
kept e h = ap length e.bytes ∙ simp lengths (omega arith)

pub kept_at : {at : ℕ} {w s t : List ℕ} {r : ℕ} → WrittenAt at w s t r → at + length w ≤ length s → length t ≡ length s
kept_at e h = ap length e.bytes ∙ simp lengths (omega arith)

-- What lies behind the text is as it was

pub kept_behind : {w s t : List ℕ} {r : ℕ} → Written w s t r → drop r t ≡ drop r s
kept_behind {w} {s} {t} {r} e = rw (e.bytes, e.used) (drop-append_seam w (drop (length w) s))

-- The text stands at the start of the buffer, and within it

pub start_written : {w s t : List ℕ} {r : ℕ} → Written w s t r → take r t ≡ w
start_written {w} {s} {t} {r} e = rw (e.bytes, e.used) (take-append_seam w (drop (length w) s))

pub written_within : {w s t : List ℕ} {r : ℕ} → Written w s t r → r ≤ length t
written_within {w} {s} e = omega (arith, e.used, ap length e.bytes, length-append w (drop (length w) s))

-- Nothing written

pub written_none : (s : List ℕ) → Written [] s s 0
written_none s = record { used = refl; bytes = refl }

-- One byte after a text, and a text in the rest behind a text

pub over_byte : (w s : List ℕ) (d : ℕ) → length w < length s → set (over w s) (length w) d ≡ over (w ++ (d ∷ [])) s
over_byte w s d h = rw (drop-cons s (length w) 0 h, set-append_seam, append_snoc, length-append, add-one)

pub over_then : (a b s : List ℕ) → take (length a) (over a s) ++ over b (drop (length a) (over a s)) ≡ over (a ++ b) s
over_then a b s = rw (take-append_seam, drop-append_seam, drop-drop, length-append, append_assoc)

-- The rest of a buffer from the place p on, lent and given back. The borrow checker writes what is lent as `mid_of`, and what has
-- come back as `put_mid`

pub lent_rest : (p : ℕ) (s : List ℕ) → mid_of p (length s - p) s ≡ drop p s
lent_rest p s = take_all (length s - p) (drop p s) (omega (arith, length-drop p s))

pub back_rest : (p : ℕ) (s ys : List ℕ) → put_mid p (length s - p) s ys ≡ take p s ++ ys
back_rest p s ys = rw (drop_of_length-le (drop p s) {i = length s - p} (omega (arith, length-drop p s)), append-nil)

-- there is room in the rest for what there is room for from p on
pub rest_room : (p : ℕ) (s : List ℕ) {n : ℕ} → p + n ≤ length s → n ≤ length (mid_of p (length s - p) s)
rest_room p s h = rw (lent_rest p s) (omega (arith, length-drop p s))

-- what was written over the start of the rest is written at p of the whole
pub rest_written : (p : ℕ) (s ys text : List ℕ) (r : ℕ) → Written text (mid_of p (length s - p) s) ys r → put_mid p (length s - p) s ys ≡ over_at p text s
rest_written p s ys text r w = back_rest p s ys ∙ ap (λ (l : List ℕ). take p s ++ l) (w.bytes ∙ ap (over text) (lent_rest p s))

pub at_rest : (at : ℕ) (b s ys : List ℕ) (k : ℕ) → Written b (mid_of at (length s - at) s) ys k → WrittenAt at b s (put_mid at (length s - at) s ys) (at + k)
at_rest at b s ys k w = record { next = ap (λ (n : ℕ). at + n) w.used; bytes = rest_written at s ys b k w }

-- A run of writes: a text and another behind it are the two in a row, whether the second was written into a lent rest or at a place

pub chain : {a b s t u : List ℕ} {r k : ℕ} → Written a s t r → WrittenAt r b t u k → Written (a ++ b) s u k
chain {a} {b} {s} {t} {u} {r} {k} v w =
    record {
      used = w.next ∙ rw v.used (sym (length-append a b));
      bytes = w.bytes ∙ rw (v.used, v.bytes) (over_then a b s);
    }

-- the same from a place on

at_byte : (at : ℕ) (s : List ℕ) (d : ℕ) → at < length s → set s at d ≡ over_at at (d ∷ []) s
at_byte at s d h = rw (set_split s at d h, drop-drop, add-one)

seam : (p a b q : List ℕ) (n : ℕ) → length p ≡ n → over_at (n + length a) b (p ++ over a q) ≡ p ++ over (a ++ b) q
seam p a b q n e = rw (← e, take-append-add, drop-append-add, take-append_seam, drop-append_seam) (simp (drop-drop, length-append, append_assoc))

pub at_then : (at : ℕ) (a b s : List ℕ) → at + length a ≤ length s → over_at (at + length a) b (over_at at a s) ≡ over_at at (a ++ b) s
at_then at a b s h = seam (take at s) a b (drop at s) at (length-take-le at s (omega arith))

pub chain_at : {at : ℕ} {a b s t u : List ℕ} {r k : ℕ} → at + length a ≤ length s → WrittenAt at a s t r → WrittenAt r b t u k → WrittenAt at (a ++ b) s u k
chain_at {at} {a} {b} {s} {t} {u} {r} {k} h v w =
    record {
      next = w.next ∙ rw (v.next, length-append) (add_assoc at (length a) (length b));
      bytes = w.bytes ∙ rw (v.next, v.bytes) (at_then at a b s h);
    }

-- a byte stored at a place is a text of one byte
pub byte_at : (at : ℕ) (s : List ℕ) (d : ℕ) → at < length s → WrittenAt at (d ∷ []) s (set s at d) (at + 1)
byte_at at s d h = record { next = refl; bytes = at_byte at s d h }

-- no byte stored is a text of none
pub none_at : (at : ℕ) (s : List ℕ) → WrittenAt at [] s s at
none_at at s = record { next = omega arith; bytes = sym (take-append-drop at s) }

-- what stands from place 0 on stands at the start
pub from_start : {w s t : List ℕ} {r : ℕ} → WrittenAt 0 w s t r → Written w s t r
from_start v = record { used = omega (arith, v.next); bytes = v.bytes }

-- A number: the start of its tenth, and one digit more

pub lead_first : (m : ℕ) {s t : List ℕ} {r : ℕ} → m < 10 → WrittenAt 0 (lead m) s t r → Written (start m) s t r
unfolding start
lead_first m h w = let e : m / 10 ≡ 0 = omega arith in rw (← start_lead m, e) (from_start w)

pub lead_next : (m : ℕ) {s t u : List ℕ} {k r : ℕ} → Written (start (m / 10)) s t k → WrittenAt k (lead m) t u r → Written (start m) s u r
lead_next m v w = rw (start_lead m) at (chain v w)

pub last_digit : (n : ℕ) {s t : List ℕ} {k : ℕ} → k < length t → Written (start (n / 10)) s t k → Written (digits n) s (set t k (48 + n % 10)) (k + 1)
last_digit n {s} {t} {k} h v = rw (start_last n) at (chain v (byte_at k t (48 + n % 10) h))

pub lead_more : (n : ℕ) {s t u : List ℕ} {k r : ℕ} → 10 ≤ n → Written (digits (n / 10)) s t k → WrittenAt k (lead n) t u r → Written (digits n) s u r
lead_more n h v w = rw (digits_large n h) (chain v (rw (lead_some n (omega arith)) at w))

pub tenth_fits : (n : ℕ) (s : List ℕ) → 10 ≤ n → length (digits n) ≤ length s → length (digits (n / 10)) < length s
tenth_fits n s h r = omega (arith, ap length (digits_large n h), length-append (digits (n / 10)) ((48 + n % 10) ∷ []))

-- there is room for the next digit

pub start_fits : (n : ℕ) (s : List ℕ) → length (digits n) ≤ length s → length (start (n / 10)) < length s
start_fits n s r = omega (arith, ap length (start_last n), length-append (start (n / 10)) ((48 + n % 10) ∷ []))

pub start_grows : (m : ℕ) → length (start (m / 10)) ≤ length (start m)
start_grows m = omega (arith, ap length (start_lead m), length-append (start (m / 10)) (lead m))

pub room : {w s t : List ℕ} {r : ℕ} → Written w s t r → length w < length s → r < length t
room v h = omega (arith, v.used, kept v (omega arith))
