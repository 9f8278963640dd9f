-- The laws of a number that a text begins with: what was read stands there, and what stands there is read. Assumes nothing.
use mathlib.Core.Path.{◌≡◌, refl, sym, ap, ◌∙◌}
use mathlib.Core.Bool.{Bool, true, false, not, ◌&&◌, and-true, and-false}
use mathlib.Core.List.{List, [], ◌∷◌, ◌++◌}
use Rattle.std.specs.Prelude.{Option, None, Some, cond, option_map}
use Prim.Native.Nat.{ℕ, suc, ◌+◌, ◌-◌, ◌*◌, ◌≤◌, ◌<◌, ◌^◌}
use native.Mathlib.Omega.{arith}
use native.Mathlib.Decide.{dec_lt}
use native.Mathlib.Nat.{pow-suc, pow-le-pow_right}
use Rattle.std.proofs.lemmas.Option.{none-some, same_Some, cond_some, option_and_then_some}
use lib.ListN.{length, get_or, take, drop, take-append-drop}
use Rattle.std.proofs.lemmas.Slice.{between_to_end}
use lib.Seq.{take-append_seam, drop-append_seam}
use lib.Dec.{eqb, leb, ltb, lit≤}
use borrow.Author.Tests.{lt-ltb, ne_eqb, eqb-true, eqb-false, leb-true, not-true}
use Rattle.lists.specs.Lists.{all_of}
use Rattle.lists.proofs.Cases.{by_test, and_split}
use Rattle.text.specs.Bytes.{same, ends_word}
use Rattle.text.specs.Digits.{digits, is_digit, value_from, number}
use Rattle.text.proofs.Numbers.{digits_small, digits_value, first_not_zero, number_digits}
use Rattle.lines.specs.Places.{until}
use Rattle.layout.proofs.RoundTrip.{only_some, digits_inner}
use Rattle.layoutforms.specs.Exact.{shut_text, behind, leading_zero, exact_number, number_in, spaced_number, opened_number}

-- ---- the bytes that a pattern reads

pub zero_is : (w : List ℕ) → leading_zero w ≡ (ltb 1 (length w) && eqb (get_or w 0 0) 48)
unfolding leading_zero
zero_is [] = refl
zero_is (b ∷ []) = refl
zero_is (b ∷ c ∷ w) = rw (lt-ltb 1 (suc (suc (length w))) (omega arith))

pub shut_is : (t : List ℕ) → same t shut_text ≡ (eqb (length t) 1 && eqb (get_or t 0 0) 41)
unfolding same
shut_is [] = refl
shut_is (b ∷ []) = and-true (eqb b 41)
shut_is (b ∷ c ∷ t) = rw (ne_eqb (suc (suc (length t))) 1 (λ e. omega arith)) (and-false (eqb b 41))

pub behind_is : (b : ℕ) (t : List ℕ) → behind b t ≡ cond (ltb 0 (length t) && eqb (get_or t 0 0) b) (Some (take (length t - 1) (drop 1 t))) None
unfolding behind
behind_is b [] = refl
behind_is b (c ∷ t) = rw (lt-ltb 0 (suc (length t)) (omega arith), between_to_end (c ∷ t) 1 (suc (length t)) (omega arith))

pub spaced_is : (t : List ℕ) →
    spaced_number t ≡ cond (ltb 0 (length t) && eqb (get_or t 0 0) 32) (number_in (take (length t - 1) (drop 1 t))) None
unfolding spaced_number
spaced_is t = rw (behind_is 32 t) (by_test (ltb 0 (length t) && eqb (get_or t 0 0) 32) (λ e. rw e) (λ e. rw e))

pub opened_is : (t : List ℕ) →
    opened_number t
    ≡ cond (ltb 1 (length t) && (eqb (get_or t 0 0) 32 && eqb (get_or t 1 0) 40)) (number_in (take (length t - 2) (drop 2 t))) None
unfolding opened_number behind
opened_is [] = refl
opened_is (b ∷ []) = by_test (eqb b 32) (λ e. rw e) (λ e. rw e)
opened_is (b ∷ c ∷ t) =
    rw (lt-ltb 1 (suc (suc (length t))) (omega arith), between_to_end (b ∷ c ∷ t) 2 (suc (suc (length t))) (omega arith))
    (by_test (eqb b 32) (λ e. rw e (by_test (eqb c 40) (λ f. rw f) (λ f. rw f))) (λ e. rw e))

-- ---- what is behind a byte

pub behind_read : (b : ℕ) (t rest : List ℕ) → behind b t ≡ Some rest → t ≡ b ∷ rest
unfolding behind
behind_read b [] rest e = absurd (none-some rest e)
behind_read b (c ∷ t) rest e =
    let q = cond_some (eqb c b) t rest e in
    let h : c ≡ b = eqb-true c b q.0 in
    rw (h, q.1)

-- ---- a word that is a number

value_below : (w : List ℕ) (acc k : ℕ) → acc < 10 ^ k → all_of is_digit w ≡ true → value_from acc w < 10 ^ (k + length w)
unfolding value_from all_of
value_below [] acc k h a = let z : k + 0 ≡ k = omega arith in rw z h
value_below (b ∷ w) acc k h a =
    let p = and_split (is_digit b) (all_of is_digit w) a in
    let q = and_split (leb 48 b) (leb b 57) p.0 in
    let l : 48 ≤ b = leb-true 48 b q.0 in
    let u : b ≤ 57 = leb-true b 57 q.1 in
    let z : k + suc (length w) ≡ suc k + length w = omega arith in
    rw z (value_below w (acc * 10 + (b - 48)) (suc k) (omega (arith, pow-suc 10 k)) p.1)

own_digits : (w : List ℕ) → 1 ≤ length w → leading_zero w ≡ false → all_of is_digit w ≡ true → digits (value_from 0 w) ≡ w
unfolding leading_zero all_of value_from
own_digits [] h z a = absurd (omega arith)
own_digits (b ∷ []) h z a =
    let p = and_split (is_digit b) true a in
    let q = and_split (leb 48 b) (leb b 57) p.0 in
    let l : 48 ≤ b = leb-true 48 b q.0 in
    let u : b ≤ 57 = leb-true b 57 q.1 in
    let d : 48 + (0 * 10 + (b - 48)) ≡ b = omega arith in
    digits_small (0 * 10 + (b - 48)) (omega arith) ∙ ap (λ (x : ℕ). x ∷ []) d
own_digits (b ∷ c ∷ w) h z a =
    let p = and_split (is_digit b) (all_of is_digit (c ∷ w)) a in
    let q = and_split (leb 48 b) (leb b 57) p.0 in
    let l : 48 ≤ b = leb-true 48 b q.0 in
    let n : (b ≡ 48 → ⊥) = eqb-false b 48 z in
    digits_value b (c ∷ w) (omega arith) a

-- a word that is read as a number is what is written for it
pub record WordRead (w : List ℕ) (v : ℕ) : Type 0 where
  pub text : digits v ≡ w
  pub small : v < 1000000
  pub some_digit : 1 ≤ length w

number_parts : (w : List ℕ) (v : ℕ) → leading_zero w ≡ false → number 6 w ≡ Some v → WordRead w v
unfolding number
number_parts w v z e =
    let h = only_some (leb 1 (length w) && leb (length w) 6 && all_of is_digit w) (value_from 0 w) v e in
    let k = and_split (leb 1 (length w) && leb (length w) 6) (all_of is_digit w) h.0 in
    let m = and_split (leb 1 (length w)) (leb (length w) 6) k.0 in
    let l : 1 ≤ length w = leb-true 1 (length w) m.0 in
    let u : length w ≤ 6 = leb-true (length w) 6 m.1 in
    let i : 0 + length w ≡ length w = omega arith in
    let b : value_from 0 w < 10 ^ length w = rw i at (value_below w 0 0 (omega arith) k.1) in
    rw (← h.1)
    (record {
      text = own_digits w l z k.1;
      small = omega (arith, pow-le-pow_right {n = 10} (lit≤ tt) u);
      some_digit = l;
    })

pub word_read : (w : List ℕ) (v : ℕ) → exact_number w ≡ Some v → WordRead w v
unfolding exact_number
word_read w v e =
    by_test (leading_zero w) (λ z. let q : None ≡ Some v = rw z at e in let o : ◌≡◌ {A = ℕ} 0 1 = cc in absurd (omega arith))
    (λ z. number_parts w v z (rw z at e))

no_zero : (w : List ℕ) → 49 ≤ get_or w 0 0 → leading_zero w ≡ false
unfolding leading_zero
no_zero [] h = refl
no_zero (b ∷ []) h = refl
no_zero (b ∷ c ∷ w) h = ne_eqb b 48 (λ (e : b ≡ 48). omega arith)

digits_lead : (v : ℕ) → leading_zero (digits v) ≡ false
unfolding leading_zero
digits_lead v =
    elim (dec_lt v 10) [
      | yes h ↦ rw (digits_small v h)
      | no h ↦ no_zero (digits v) (first_not_zero v (omega arith))
    ]

exact_digits : (v : ℕ) → v < 1000000 → exact_number (digits v) ≡ Some v
unfolding exact_number
exact_digits v h = rw (digits_lead v) (number_digits 5 v (omega arith))

-- ---- a number

-- the text `before` stands first, then a number of at most six digits without leading zeros, then the rest
pub record NumberRead (t before : List ℕ) (r : ℕ × List ℕ) : Type 0 where
  pub text : t ≡ before ++ (digits r.0 ++ r.1)
  pub small : r.0 < 1000000

mapped : (o : Option ℕ) (rest : List ℕ) (r : ℕ × List ℕ) → option_map (λ v. (v, rest)) o ≡ Some r → (o ≡ Some r.0) × (rest ≡ r.1)
mapped None rest r e = (cc, cc)
mapped (Some v) rest r e =
    let q = same_Some (v, rest) r e in
    (ap (λ (x : ℕ × List ℕ). Some x.0) q, ap (λ (x : ℕ × List ℕ). x.1) q)

pub number_read : (t : List ℕ) (r : ℕ × List ℕ) → number_in t ≡ Some r → NumberRead t [] r
unfolding number_in
number_read t r e =
    let u = until ends_word t in
    let p = mapped (exact_number (take u t)) (drop u t) r e in
    let w = word_read (take u t) r.0 p.0 in
    record { text = sym (take-append-drop u t) ∙ (rw (w.text, p.1)); small = w.small }

pub spaced_read : (t : List ℕ) (r : ℕ × List ℕ) → spaced_number t ≡ Some r → NumberRead t (32 ∷ []) r
unfolding spaced_number
spaced_read t r e =
    option_and_then_some number_in (behind 32 t) r e
    (λ rest f g.
    let n = number_read rest r g in
    record { text = behind_read 32 t rest f ∙ ap (λ (l : List ℕ). 32 ∷ l) n.text; small = n.small })

pub opened_read : (t : List ℕ) (r : ℕ × List ℕ) → opened_number t ≡ Some r → NumberRead t (32 ∷ 40 ∷ []) r
unfolding opened_number
opened_read t r e =
    option_and_then_some _ (behind 32 t) r e
    (λ bracket f g.
    option_and_then_some number_in (behind 40 bracket) r g
    (λ rest h k.
    let n = number_read rest r k in
    record {
      text = behind_read 32 t bracket f ∙ ap (λ (l : List ℕ). 32 ∷ l) (behind_read 40 bracket rest h ∙ ap (λ (l : List ℕ). 40 ∷ l) n.text);
      small = n.small;
    }))

-- and back: what stands there is read, where a byte behind it ends the number

pub until_then : (f : ℕ → Bool) (w : List ℕ) (c : ℕ) (t : List ℕ) → all_of (λ b. not (f b)) w ≡ true → f c ≡ true → until f (w ++ c ∷ t) ≡ length w
unfolding until all_of
until_then f [] c t a e = rw e
until_then f (b ∷ w) c t a e =
    let h = and_split (not (f b)) (all_of (λ b. not (f b)) w) a in
    rw (not-true (f b) h.0, until_then f w c t h.1 e)

pub number_there : (v c : ℕ) (t : List ℕ) → ends_word c ≡ true → v < 1000000 → number_in (digits v ++ c ∷ t) ≡ Some (v, c ∷ t)
unfolding number_in
number_there v c t m h =
    rw (until_then ends_word (digits v) c t (digits_inner v) m, take-append_seam (digits v) (c ∷ t), drop-append_seam (digits v) (c ∷ t), exact_digits v h)

pub spaced_there : (v c : ℕ) (t : List ℕ) → ends_word c ≡ true → v < 1000000 → spaced_number (32 ∷ (digits v ++ c ∷ t)) ≡ Some (v, c ∷ t)
unfolding spaced_number behind
spaced_there v c t m h = number_there v c t m h

pub opened_there : (v c : ℕ) (t : List ℕ) → ends_word c ≡ true → v < 1000000 → opened_number (32 ∷ 40 ∷ (digits v ++ c ∷ t)) ≡ Some (v, c ∷ t)
unfolding opened_number behind
opened_there v c t m h = number_there v c t m h
