-- Setting the rows of a block one after another blocks those rows and leaves every other as it was. Assumes nothing.
use Prim.Native.Nat.{ℕ, ◌+◌, ◌≤◌, ◌<◌}
use mathlib.Core.Path.{◌≡◌, ap, sym, ◌∙◌}
use mathlib.Core.Bool.{false, ◌||◌, ◌&&◌, or_assoc}
use mathlib.Core.List.{List}
use native.Mathlib.Omega.{arith}
use lib.Dec.{eqb, ltb, leb}
use borrow.Author.Tests.{lt-ltb, le-ltb, le-leb, ltb-true, ltb-false, leb-true, leb-false, eqb-true, eqb-false}
use Rattle.lists.proofs.Cases.{by_test}
use Rattle.blockmap.specs.Bits.{is_set}

-- beside the rows of `old`, rows `first` to before `end` are blocked
abbrev pub Added : List ℕ → List ℕ → ℕ → ℕ → Type 0
Added old words first end = (k : ℕ) → is_set words k ≡ (leb first k && ltb k end || is_set old k)

none_between : (a k : ℕ) → (leb a k && ltb k a) ≡ false
none_between a k =
    by_test (leb a k) (λ t. rw (t, le-ltb k a (leb-true a k t))) (λ t. rw t)

one_more : (a n k : ℕ) → a ≤ n → (leb a k && ltb k (n + 1)) ≡ (eqb k n || leb a k && ltb k n)
one_more a n k h =
    by_test (eqb k n)
    (λ t.
    let e : k ≡ n = eqb-true k n t in
    rw (t, le-leb a k (omega arith), lt-ltb k (n + 1) (omega arith)))
    (λ t.
    let d : k ≡ n → ⊥ = eqb-false k n t in
    by_test (ltb k n)
    (λ l. let l' : k < n = ltb-true k n l in rw (t, l, lt-ltb k (n + 1) (omega arith)))
    (λ l. let l' : n ≤ k = ltb-false k n l in rw (t, l, le-ltb k (n + 1) (omega arith))))

pub added_none : (words : List ℕ) (first : ℕ) → Added words words first first
added_none words first k = rw (none_between first k)

pub added_more : (old before after : List ℕ) (first n : ℕ) → first ≤ n → Added old before first n
    → ((k : ℕ) → is_set after k ≡ (eqb k n || is_set before k)) → Added old after first (n + 1)
added_more old before after first n h p q k =
    q k ∙ ap (λ t. eqb k n || t) (p k) ∙ sym (or_assoc (eqb k n) (leb first k && ltb k n) (is_set old k)) ∙ ap (λ t. t || is_set old k) (sym (one_more first n k h))

lt_next : (k n : ℕ) → ltb k (n + 1) ≡ leb k n
lt_next k n =
    by_test (leb k n)
    (λ t. let l : k ≤ n = leb-true k n t in rw (t, lt-ltb k (n + 1) (omega arith)))
    (λ t. let l : n < k = leb-false k n t in rw (t, le-ltb k (n + 1) (omega arith)))

-- up to and with the last row
pub added_all : (old words : List ℕ) (first last : ℕ) → Added old words first (last + 1)
    → (k : ℕ) → is_set words k ≡ (leb first k && leb k last || is_set old k)
added_all old words first last p k = p k ∙ ap (λ t. leb first k && t || is_set old k) (lt_next k last)
