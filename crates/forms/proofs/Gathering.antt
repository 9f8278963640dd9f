-- The laws of the numbers of a form, gathered one after another. Assumes nothing.
use mathlib.Core.Path.{◌≡◌, refl, sym, ap, ◌∙◌}
use mathlib.Core.Bool.{Bool, true, false, cond, not, false≢true}
use mathlib.Core.List.{List, [], ◌∷◌, ◌++◌, append-nil}
use Rattle.std.specs.Prelude.{Option, None, Some}
use Prim.Native.Nat.{ℕ, zero, suc, ◌+◌, ◌-◌, ◌≤◌, ◌<◌}
use native.Mathlib.Omega.{arith}
use native.Mathlib.Numerals.{add-one}
use lib.ListN.{length, get_or, take, drop, set, length-set}
use lib.Seq.{drop-cons, take-suc-set, append_snoc}
use borrow.Author.Tests.{ne_eqb, not-true, not-false}
use Rattle.std.specs.Bool.{then_some}
use Rattle.std.specs.Option.{is_some}
use Rattle.lists.specs.Lists.{all_of}
use Rattle.text.specs.Bytes.{same, is_bracket}
use Rattle.text.specs.Digits.{number}
use Rattle.lines.specs.Tokens.{token_at, token_words, line_words}
use Rattle.lines.specs.declared.Token.{Token}
use Rattle.lines.specs.declared.Token.TheVariants.{Open, Shut, Word}
use Rattle.lines.specs.Tokened.{TokenPlaced, Tokened}
use Rattle.lines.proofs.Tokens.{tokened}
use Rattle.jobfile.specs.Forms.{no_word, cons_number, arguments}
use Rattle.forms.specs.Arguments.{arguments_of, ArgumentsAre}

-- the words at a token that was read
pub token_is : (s : List ℕ) (at : ℕ) (r : Option Token) → r ≡ token_at s at → Tokened s at r
token_is s at r e = rw e (tokened s at)

-- a word is no bracket
pub word_is_none : (s : List ℕ) (at from to c : ℕ) → TokenPlaced s at (Some (Word from to)) → is_bracket c ≡ true →
    same (take (to - from) (drop from s)) (c ∷ []) ≡ false
unfolding same
word_is_none s at from to c p e =
    let m : to - from ≡ suc (to - from - 1) = omega arith in
    let d : (get_or s from 0 ≡ c → ⊥) = λ q. false≢true (sym p.3 ∙ ap is_bracket q ∙ e) in
    rw (m, drop-cons s from 0 (omega arith), ne_eqb (get_or s from 0) c d)

-- ---- numbers at a token

-- at most k numbers of the words at a token: none where no number can begin there
at_none : (s : List ℕ) (p k : ℕ) → Tokened s p None → arguments k (line_words (drop p s)) ≡ None
unfolding token_words arguments
at_none s p zero t = rw t.words
at_none s p (suc k) t = rw t.words

at_open : (s : List ℕ) (p next k : ℕ) → Tokened s p (Some (Open next)) → arguments k (line_words (drop p s)) ≡ None
unfolding token_words arguments cons_number number all_of same
at_open s p next zero t = rw t.words
at_open s p next (suc k) t = rw t.words

-- a closing bracket, which has to end the line
at_shut : (s : List ℕ) (p next k : ℕ) → Tokened s p (Some (Shut next)) → arguments k (line_words (drop p s)) ≡ cond (no_word (line_words (drop next s))) (Some []) None
unfolding token_words arguments cons_number number all_of same
at_shut s p next zero t = rw t.words
at_shut s p next (suc k) t = rw t.words

-- a word, which is no bracket: a number, or none of the numbers is given
at_word : (s : List ℕ) (p from to k : ℕ) → Tokened s p (Some (Word from to)) →
    arguments (suc k) (line_words (drop p s)) ≡ cons_number (number 5 (take (to - from) (drop from s))) (arguments k (line_words (drop to s)))
unfolding token_words arguments
at_word s p from to k t = rw (t.words, word_is_none s p from to 41 t.placed refl)

at_seventh : (s : List ℕ) (p from to : ℕ) → Tokened s p (Some (Word from to)) → arguments 0 (line_words (drop p s)) ≡ None
unfolding token_words arguments
at_seventh s p from to t = rw (t.words, word_is_none s p from to 41 t.placed refl)

-- ---- several

-- numbers that have been read, before those that follow
unfoldable pub prefixed : List ℕ → Option (List ℕ) → Option (List ℕ)
prefixed xs None = None
prefixed xs (Some ns) = Some (xs ++ ns)

prefixed_nil : (o : Option (List ℕ)) → o ≡ prefixed [] o
unfolding prefixed
prefixed_nil None = refl
prefixed_nil (Some ns) = refl

prefixed_snoc : (xs : List ℕ) (v : ℕ) (o : Option (List ℕ)) → prefixed xs (cons_number (Some v) o) ≡ prefixed (xs ++ (v ∷ [])) o
unfolding prefixed cons_number
prefixed_snoc xs v None = refl
prefixed_snoc xs v (Some ns) = rw append_snoc

-- of at most six numbers from the place `at` on, the first j are in n, and the others begin at p
pub record ArgumentsRead (s : List ℕ) (at : ℕ) (n : List ℕ) (p j : ℕ) : Type 0 where
  pub some_left : j ≤ 6
  pub inside : p ≤ length s
  pub room : length n ≡ 6
  pub rest : arguments 6 (line_words (drop at s)) ≡ prefixed (take j n) (arguments (6 - j) (line_words (drop p s)))

pub gathered_none : (s : List ℕ) (at : ℕ) (n : List ℕ) → at ≤ length s → length n ≡ 6 → ArgumentsRead s at n at 0
gathered_none s at n h r =
    let e : 6 - 0 ≡ 6 = omega arith in
    record { some_left = omega arith; inside = h; room = r; rest = rw e (prefixed_nil (arguments 6 (line_words (drop at s)))) }

-- ---- a turn: the token at p

module _ (s : List ℕ) (at : ℕ) (n : List ℕ) (p j : ℕ) (g : ArgumentsRead s at n p j) where
  -- the numbers are not given
  not_given : arguments (6 - j) (line_words (drop p s)) ≡ None → ArgumentsAre (line_words (drop at s)) None
  unfolding arguments_of prefixed
  not_given e = record { numbers_are = sym (g.rest ∙ rw e); count_range = tt }

  pub gathered_none_left : None ≡ token_at s p → ArgumentsAre (line_words (drop at s)) None
  gathered_none_left e = not_given (at_none s p (6 - j) (token_is s p None e))

  module _ (r : Token) (e : Some r ≡ token_at s p) where
    is_at : (x : Token) → r ≡ x → Tokened s p (Some x)
    is_at x i = token_is s p (Some x) (ap Some (sym i) ∙ e)

    pub gathered_open : (next : ℕ) → r ≡ Open next → ArgumentsAre (line_words (drop at s)) None
    gathered_open next i = not_given (at_open s p next (6 - j) (is_at (Open next) i))

    pub shut_inside : (next : ℕ) → r ≡ Shut next → next ≤ length s
    shut_inside next i = (is_at (Shut next) i).placed.1

    pub gathered_all : (next : ℕ) → r ≡ Shut next → (t : Bool) → t ≡ no_word (line_words (drop next s)) →
        ArgumentsAre (line_words (drop at s)) (then_some t (record { count = j; numbers = n }))
    unfolding arguments_of prefixed
    gathered_all next i true w =
        record { numbers_are = sym (g.rest ∙ rw (at_shut s p next (6 - j) (is_at (Shut next) i), ← w, append-nil)); count_range = g.some_left }
    gathered_all next i false w = not_given (at_shut s p next (6 - j) (is_at (Shut next) i) ∙ rw (← w))

    module _ (from to : ℕ) (i : r ≡ Word from to) where
      pub word_at : (from < to) × (to ≤ length s)
      word_at = let t = (is_at (Word from to) i).placed in (t.1, t.2)

      pub gathered_seventh : 6 ≤ j → ArgumentsAre (line_words (drop at s)) None
      gathered_seventh h = let m : 6 - j ≡ 0 = omega (arith, g.some_left) in not_given (rw m (at_seventh s p from to (is_at (Word from to) i)))

      module _ (h : j < 6) where
        word_next : arguments (6 - j) (line_words (drop p s)) ≡
            cons_number (number 5 (take (to - from) (drop from s))) (arguments (6 - (j + 1)) (line_words (drop to s)))
        word_next = let m : 6 - j ≡ suc (6 - (j + 1)) = omega arith in rw m (at_word s p from to (6 - (j + 1)) (is_at (Word from to) i))

        pub gathered_bad : None ≡ number 5 (take (to - from) (drop from s)) → ArgumentsAre (line_words (drop at s)) None
        unfolding cons_number
        gathered_bad q = not_given (word_next ∙ rw (← q))

        pub gathered_more : (v : ℕ) → Some v ≡ number 5 (take (to - from) (drop from s)) → ArgumentsRead s at (set n j v) to (j + 1)
        gathered_more v q =
            record {
              some_left = omega arith;
              inside = word_at.1;
              room = length-set n j v ∙ g.room;
              rest =
                  g.rest
                  ∙ rw (word_next, ← q, add-one j, take-suc-set n j v (omega arith))
                  (prefixed_snoc (take j n) v (arguments (6 - suc j) (line_words (drop to s))));
            }

-- whether no token is left

pub none_left : (s : List ℕ) (at : ℕ) (r : Option Token) (t : Bool) → Tokened s at r → is_some r ≡ not t → t ≡ no_word (line_words (drop at s))
unfolding token_words no_word
none_left s at None t w e = rw w.words (not-false t (sym e))
none_left s at (Some (Open next)) t w e = rw w.words (not-true t (sym e))
none_left s at (Some (Shut next)) t w e = rw w.words (not-true t (sym e))
none_left s at (Some (Word from to)) t w e = rw w.words (not-true t (sym e))
