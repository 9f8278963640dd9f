-- The laws of tokens: read one after the other they are the words of a line, and their places lie within it. Assumes nothing.
use mathlib.Core.Path.{◌≡◌, refl, sym, ap, ◌∙◌}
use mathlib.Core.Bool.{Bool, true, false, not, ◌||◌}
use mathlib.Core.List.{List, [], ◌∷◌, ◌++◌, append-nil}
use Prim.Native.Nat.{ℕ, suc, ◌+◌, ◌≤◌, ◌<◌}
use native.Mathlib.Omega.{arith}
use Rattle.std.specs.Prelude.{Option, None, Some}
use native.Mathlib.Decide.{dec_lt}
use native.Mathlib.Numerals.{add-one}
use native.Mathlib.Nat.{add-sub_cancel_left}
use lib.ListN.{length, get_or, take, drop, length-take, length-drop, take-append-drop, drop_of_length-le}
use lib.Seq.{drop-cons, drop-drop, get_or-drop}
use lib.Dec.{eqb}
use borrow.Author.Tests.{not-true, eq-eqb, ne_eqb, eqb-true, eqb-false, lt-ltb, le-ltb}
use Rattle.lists.specs.Lists.{all_of}
use Rattle.lists.proofs.Cases.{by_test, and_split}
use Rattle.text.specs.Bytes.{joined, pieces, non_empty, is_space, not_space, is_bracket, ends_word}
use Rattle.text.proofs.Bytes.{piece_then, piece_last, non_empty_some}
use Rattle.lines.specs.Places.{until, scan}
use Rattle.lines.specs.Tokens.{spaced, line_words, opening, closing, token_on, token_at, token_words}
use Rattle.lines.specs.Tokened.{TokenPlaced, Tokened}
use Rattle.lines.specs.declared.Token.{Token}
use Rattle.lines.specs.declared.Token.TheVariants.{Open, Shut, Word}
use Rattle.lines.proofs.Scans.{until_le, until_before, until_at}

-- the four answers

pub on_nothing : (s : List ℕ) (i : ℕ) → length s ≤ i → None ≡ token_on s i
unfolding token_on
on_nothing s i h = rw (le-ltb i (length s) h)

pub on_open : (s : List ℕ) (i : ℕ) → i < length s → get_or s i 0 ≡ 40 → Some (Open (i + 1)) ≡ token_on s i
unfolding token_on
on_open s i h e = rw (lt-ltb i (length s) h, eq-eqb (get_or s i 0) 40 e)

pub on_shut : (s : List ℕ) (i : ℕ) → i < length s → get_or s i 0 ≡ 41 → Some (Shut (i + 1)) ≡ token_on s i
unfolding token_on
on_shut s i h e = rw (lt-ltb i (length s) h, e)

pub on_word : (s : List ℕ) (i to : ℕ) → i < length s → (get_or s i 0 ≡ 40 → ⊥) → (get_or s i 0 ≡ 41 → ⊥) → to ≡ scan ends_word s i → Some (Word i to) ≡ token_on s i
unfolding token_on
on_word s i to h a b e = rw (lt-ltb i (length s) h, ne_eqb (get_or s i 0) 40 a, ne_eqb (get_or s i 0) 41 b, e)

pub at_on : (s : List ℕ) (at i : ℕ) → i ≡ scan not_space s at → token_on s i ≡ token_at s at
unfolding token_at
at_on s at i e = ap (token_on s) e

-- spaces before a word

pub space_first : (b : ℕ) (t : List ℕ) → is_space b ≡ true → line_words (b ∷ t) ≡ line_words t
unfolding line_words spaced pieces non_empty
space_first b t e = rw (eqb-true b 32 e)

skip_words : (t : List ℕ) → line_words (drop (until not_space t) t) ≡ line_words t
unfolding until
skip_words [] = refl
skip_words (b ∷ t) = by_test (is_space b) (λ e. rw e (skip_words t ∙ sym (space_first b t e))) (λ e. rw e)

-- a word, up to a space, a bracket or the end

neither : (x y : Bool) → not (x || y) ≡ true → (x ≡ false) × (y ≡ false)
neither true y e = (sym e, cc)
neither false true e = (refl, sym e)
neither false false e = (refl, refl)

spaced_word : (w rest : List ℕ) → all_of (λ b. not (ends_word b)) w ≡ true → spaced (w ++ rest) ≡ w ++ spaced rest
unfolding spaced all_of
spaced_word [] rest e = refl
spaced_word (b ∷ w) rest e =
    let h = and_split (not (ends_word b)) (all_of (λ b. not (ends_word b)) w) e in
    rw ((neither (is_space b) (is_bracket b) h.0).1, spaced_word w rest h.1)

no_space : (w : List ℕ) → all_of (λ b. not (ends_word b)) w ≡ true → all_of (λ b. not (is_space b)) w ≡ true
unfolding all_of
no_space [] e = refl
no_space (b ∷ w) e =
    let h = and_split (not (ends_word b)) (all_of (λ b. not (ends_word b)) w) e in
    rw ((neither (is_space b) (is_bracket b) h.0).0, no_space w h.1)

-- what stands between spaces
split_words : List ℕ → List (List ℕ)
split_words l = non_empty (pieces is_space l)

pub word_last : (w : List ℕ) → all_of (λ b. not (ends_word b)) w ≡ true → 1 ≤ length w → line_words (w ++ []) ≡ w ∷ line_words []
unfolding line_words split_words spaced pieces non_empty
word_last w e h =
    ap split_words (spaced_word w [] e ∙ append-nil w)
    ∙ ap non_empty (piece_last is_space w (no_space w e) h)
    ∙ non_empty_some w [] h

word_sep : (w x : List ℕ) → all_of (λ b. not (ends_word b)) w ≡ true → 1 ≤ length w → split_words (w ++ 32 ∷ x) ≡ w ∷ split_words (32 ∷ x)
unfolding split_words pieces non_empty
word_sep w x e h = ap non_empty (piece_then is_space w 32 x (no_space w e) refl) ∙ non_empty_some w (pieces is_space x) h

either : (x y : Bool) → (x || y) ≡ true → y ≡ false → x ≡ true
either true y e f = refl
either false y e f = cc

-- a space or a bracket, with spaces around it, begins with a space
end_spaced : (c : ℕ) (r : List ℕ) → ends_word c ≡ true → (x : List ℕ) × (spaced (c ∷ r) ≡ 32 ∷ x)
unfolding spaced
end_spaced c r m =
    by_test (is_bracket c) (λ b. (c ∷ 32 ∷ spaced r, rw b))
    (λ b. (spaced r, rw (b, eqb-true c 32 (either (is_space c) (is_bracket c) m b))))

pub word_then : (w : List ℕ) (c : ℕ) (r : List ℕ) → all_of (λ b. not (ends_word b)) w ≡ true → 1 ≤ length w → ends_word c ≡ true → line_words (w ++ c ∷ r) ≡ w ∷ line_words (c ∷ r)
unfolding line_words split_words
word_then w c r e h m =
    let k = end_spaced c r m in
    ap split_words (spaced_word w (c ∷ r) e ∙ ap (λ (l : List ℕ). w ++ l) k.1)
    ∙ word_sep w k.0 e h
    ∙ ap (λ (l : List ℕ). w ∷ split_words l) (sym k.1)

first_word : (t : List ℕ) → 0 < until ends_word t → line_words t ≡ take (until ends_word t) t ∷ line_words (drop (until ends_word t) t)
first_word t h =
    let u = until ends_word t in
    let e = until_before ends_word t in
    let n : 1 ≤ length (take u t) = omega (arith, length-take u t, until_le ends_word t) in
    elim (dec_lt u (length t)) [
      | yes k ↦
          ap line_words (sym (take-append-drop u t) ∙ ap (λ (l : List ℕ). take u t ++ l) (drop-cons t u 0 k))
          ∙ word_then (take u t) (get_or t u 0) (drop (suc u) t) e n (until_at ends_word t k)
          ∙ ap (λ (l : List ℕ). take u t ∷ line_words l) (sym (drop-cons t u 0 k))
      | no k ↦
          let z : drop u t ≡ [] = drop_of_length-le t {i = u} (omega arith) in
          ap line_words (sym (take-append-drop u t) ∙ ap (λ (l : List ℕ). take u t ++ l) z)
          ∙ word_last (take u t) e n
          ∙ ap (λ (l : List ℕ). take u t ∷ line_words l) (sym z)
    ]

pub open_first : (t : List ℕ) → line_words (40 ∷ t) ≡ opening ∷ line_words t
unfolding line_words spaced pieces non_empty joined
open_first t = refl

pub shut_first : (t : List ℕ) → line_words (41 ∷ t) ≡ closing ∷ line_words t
unfolding line_words spaced pieces non_empty joined
shut_first t = refl

-- what each of the four answers says of its line

end_token : (s : List ℕ) (i : ℕ) → length s ≤ i → Tokened s i (token_on s i)
unfolding line_words spaced pieces non_empty token_words
end_token s i h = rw (← on_nothing s i h) (record { words = rw (drop_of_length-le s h); placed = tt })

open_token : (s : List ℕ) (i : ℕ) → i < length s → get_or s i 0 ≡ 40 → Tokened s i (token_on s i)
unfolding token_words
open_token s i h e =
    rw (← on_open s i h e) (record { words = rw (drop-cons s i 0 h, e, add-one i) (open_first (drop (suc i) s)); placed = (omega arith, omega arith) })

shut_token : (s : List ℕ) (i : ℕ) → i < length s → get_or s i 0 ≡ 41 → Tokened s i (token_on s i)
unfolding token_words
shut_token s i h e =
    rw (← on_shut s i h e) (record { words = rw (drop-cons s i 0 h, e, add-one i) (shut_first (drop (suc i) s)); placed = (omega arith, omega arith) })

word_token : (s : List ℕ) (i : ℕ) → i < length s → is_space (get_or s i 0) ≡ false → (get_or s i 0 ≡ 40 → ⊥) → (get_or s i 0 ≡ 41 → ⊥) → Tokened s i (token_on s i)
unfolding token_words scan until
word_token s i h a b c =
    let u = until ends_word (drop i s) in
    let k : is_bracket (get_or s i 0) ≡ false = rw (ne_eqb (get_or s i 0) 40 b, ne_eqb (get_or s i 0) 41 c) in
    let p : 0 < u = rw (drop-cons s i 0 h, a, k) (omega arith) in
    rw (← on_word s i (scan ends_word s i) h b c refl)
    (record {
      words = first_word (drop i s) p ∙ rw (add-sub_cancel_left i u, drop-drop u i s);
      placed = (omega arith, omega arith, omega (arith, until_le ends_word (drop i s), length-drop i s), k);
    })

on_token : (s : List ℕ) (i : ℕ) → (i < length s → not_space (get_or s i 0) ≡ true) → Tokened s i (token_on s i)
on_token s i ink =
    elim (dec_lt i (length s)) [
      | yes h ↦
          by_test (eqb (get_or s i 0) 40) (λ e. open_token s i h (eqb-true _ _ e))
          (λ e.
          by_test (eqb (get_or s i 0) 41) (λ f. shut_token s i h (eqb-true _ _ f))
          (λ f. word_token s i h (not-true (is_space (get_or s i 0)) (ink h)) (eqb-false _ _ e) (eqb-false _ _ f)))
      | no h ↦ end_token s i (omega arith)
    ]

-- the places of a token at a later byte lie behind an earlier one too
placed_before : (s : List ℕ) (at i : ℕ) (r : Option Token) → at ≤ i → TokenPlaced s i r → TokenPlaced s at r
placed_before s at i None h p = tt
placed_before s at i (Some (Open next)) h p = (omega arith, p.1)
placed_before s at i (Some (Shut next)) h p = (omega arith, p.1)
placed_before s at i (Some (Word from to)) h p = (omega arith, p.1, p.2, p.3)

-- `Tokened` holds of every token
pub tokened : (s : List ℕ) (at : ℕ) → Tokened s at (token_at s at)
unfolding token_at scan
tokened s at =
    let u = until not_space (drop at s) in
    let t = on_token s (at + u) (λ h. rw (← get_or-drop) (until_at not_space (drop at s) (omega (arith, length-drop at s)))) in
    record {
      words = sym (skip_words (drop at s)) ∙ ap line_words (drop-drop u at s) ∙ t.words;
      placed = placed_before s at (at + u) (token_on s (at + u)) (omega arith) t.placed;
    }
