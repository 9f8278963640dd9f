-- The place that a search finds: the word at it is the one looked for, and each word is found at its own place. Assumes nothing.
use mathlib.Core.Path.{◌≡◌, refl, sym, ap, ◌∙◌}
use mathlib.Core.Bool.{Bool, true, false, not}
use mathlib.Core.List.{List, [], ◌∷◌}
use Prim.Native.Nat.{ℕ, zero, suc, ◌+◌, ◌-◌, ◌≤◌, ◌<◌}
use native.Mathlib.Omega.{arith}
use lib.ListN.{length, get_or, drop, drop_of_length-le}
use lib.Seq.{drop-cons}
use Rattle.std.specs.Prelude.{Option, None, Some, MatchOption}
use borrow.Author.Tests.{not-true}
use Rattle.lists.specs.Lists.{all_of, all_pairs}
use Rattle.lists.proofs.Cases.{by_test, and_split}
use Rattle.lists.proofs.Laws.{all_of_at}
use Rattle.lists.proofs.Places.{mem_at}
use Rattle.text.specs.Bytes.{same}
use Rattle.text.proofs.Bytes.{same_refl, same_true}
use Rattle.keywords.specs.Keywords.{words, word_of, find_from, find_word}
use Rattle.keywords.specs.declared.Vocabulary.{Vocabulary}
use Rattle.keywords.specs.declared.Vocabulary.TheVariants.{Job, Layout}

-- A search over the places of a table, and the first of them at which the word s stands

-- none of the first n words of ws is s
abbrev pub NoneOf : List (List ℕ) → List ℕ → ℕ → Type 0
NoneOf ws s n = (k : ℕ) → k < n → same s (get_or ws k []) ≡ false

first_at : (i : ℕ) (ws : List (List ℕ)) (s : List ℕ) (n : ℕ) → n < length ws → same s (get_or ws n []) ≡ true → NoneOf ws s n → find_from i ws s ≡ Some (i + n)
unfolding find_from
first_at i [] s n h e a = absurd (omega arith)
first_at i (w ∷ ws) s zero h e a = rw e (ap Some (omega arith))
first_at i (w ∷ ws) s (suc n) h e a = rw (a 0 (omega arith)) (first_at (suc i) ws s n (omega arith) e (λ k l. a (suc k) (omega arith)) ∙ ap Some (omega arith))

not_at : (i : ℕ) (ws : List (List ℕ)) (s : List ℕ) → NoneOf ws s (length ws) → find_from i ws s ≡ None
unfolding find_from
not_at i [] s a = refl
not_at i (w ∷ ws) s a = rw (a 0 (omega arith)) (not_at (suc i) ws s (λ k l. a (suc k) (omega arith)))

-- word i of the table is s, or it is not
abbrev pub Is : Vocabulary → List ℕ → ℕ → Type 0
Is v s i = same s (word_of v i) ≡ true

abbrev pub IsNot : Vocabulary → List ℕ → ℕ → Type 0
IsNot v s i = same s (word_of v i) ≡ false

-- the first of all places at which s stands, or none where it stands at no place, is what the definition finds
pub searched : (v : Vocabulary) (s : List ℕ) (n : ℕ) (r : Option ℕ) → n ≡ length (words v) →
    MatchOption r ((k : ℕ) → 0 ≤ k → k < n → IsNot v s k) (λ i. (0 ≤ i) × (i < n) × Is v s i × ((k : ℕ) → 0 ≤ k → k < i → IsNot v s k)) →
    r ≡ find_word v s
unfolding find_word word_of
searched v s n None e h = sym (not_at 0 (words v) s (λ k l. h k (omega arith) (omega arith)))
searched v s n (Some i) e h = sym (first_at 0 (words v) s i (omega arith) h.2 (λ k l. h.3 k (omega arith) l) ∙ ap Some (omega arith))

-- A search from place i on finds the word there, if it is s; behind the last place it finds none

pub found : (v : Vocabulary) (s : List ℕ) (i : ℕ) → i < length (words v) → same s (word_of v i) ≡ true → find_from i (drop i (words v)) s ≡ Some i
unfolding word_of find_from
found v s i h e = rw (drop-cons (words v) i [] h, e)

pub none_found : (v : Vocabulary) (s : List ℕ) (i : ℕ) → length (words v) ≤ i → find_from i (drop i (words v)) s ≡ None
unfolding find_from
none_found v s i h = rw (drop_of_length-le (words v) h)

-- What a search answers

found_from : (i : ℕ) (ws : List (List ℕ)) (s : List ℕ) (r : ℕ) → find_from i ws s ≡ Some r → (i ≤ r) × (r < i + length ws) × (get_or ws (r - i) [] ≡ s)
unfolding find_from
found_from i [] s r f = cc
found_from i (w ∷ ws) s r f =
    by_test (same s w)
    (λ e.
    let g : ◌≡◌ {A = Option ℕ} (Some i) (Some r) = rw e at f in
    let z : i ≡ r = cc in
    let d : r - i ≡ 0 = omega arith in (omega arith, omega arith, rw d (sym (same_true s w e))))
    (λ e.
    let g = found_from (suc i) ws s r (rw e at f) in
    let z : r - i ≡ suc (r - suc i) = omega arith in
    (omega arith, omega arith, rw z g.2))

pub find_word_lem : (v : Vocabulary) (s : List ℕ) (i : ℕ) → find_word v s ≡ Some i → (i < length (words v)) × (word_of v i ≡ s)
unfolding find_word word_of
find_word_lem v s i h =
    let f = found_from 0 (words v) s i h in
    let z : i - 0 ≡ i = omega arith in
    (omega arith, rw z at f.2)

-- And back: no two words of a table are the same, so each is found at its own place

-- two words are not the same
differ : List ℕ → List ℕ → Bool
differ w u = not (same u w)

all_differ : (v : Vocabulary) → all_pairs differ (words v) ≡ true
unfolding all_pairs all_of differ same
all_differ Job = refl
all_differ Layout = refl

find_own : (k : ℕ) (ws : List (List ℕ)) (i : ℕ) → all_pairs differ ws ≡ true → i < length ws → find_from k ws (get_or ws i []) ≡ Some (k + i)
unfolding find_from all_pairs differ
find_own k [] i a h = absurd (omega arith)
find_own k (w ∷ ws) zero a h = rw (same_refl w) (ap Some (omega arith))
find_own k (w ∷ ws) (suc i) a h =
    let p = and_split (all_of (differ w) ws) (all_pairs differ ws) a in
    rw (not-true (same (get_or ws i []) w) (all_of_at (differ w) ws (get_or ws i []) p.0 (mem_at ws i [] (omega arith))))
    (find_own (suc k) ws i p.1 (omega arith) ∙ ap Some (omega arith))

pub word_find : (v : Vocabulary) (i : ℕ) → i < length (words v) → find_word v (word_of v i) ≡ Some i
unfolding find_word word_of
word_find v i h = find_own 0 (words v) i (all_differ v) h ∙ ap Some (omega arith)
