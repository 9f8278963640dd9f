-- The laws of a scan for the first byte that passes a test: that a scan finds what the definition does, and what stands before and at the
-- byte that it finds. Assumes nothing.
use mathlib.Core.Path.{◌≡◌, refl, sym}
use mathlib.Core.Bool.{Bool, true, false, not}
use mathlib.Core.List.{List, [], ◌∷◌}
use Prim.Native.Nat.{ℕ, zero, suc, ◌+◌, ◌-◌, ◌≤◌, ◌<◌}
use native.Mathlib.Omega.{arith}
use lib.ListN.{length, get_or, take, drop, length-drop}
use lib.Seq.{get_or-drop}
use Rattle.lists.specs.Lists.{all_of}
use Rattle.lists.proofs.Cases.{by_test}
use Rattle.lines.specs.Places.{until, scan}
use Rattle.lines.specs.Scanned.{Scanned}

-- a scan that found r: the definition finds the same, where the test that scanned is f

until_is : (f : ℕ → Bool) (t : List ℕ) (n : ℕ) → n ≤ length t → ((k : ℕ) → k < n → f (get_or t k 0) ≡ false) → (n < length t → f (get_or t n 0) ≡ true) → until f t ≡ n
unfolding until
until_is f [] n h a e = omega arith
until_is f (b ∷ t) zero h a e = rw (e (omega arith))
until_is f (b ∷ t) (suc n) h a e =
    let u = until_is f t n (omega arith) (λ k l. a (suc k) (omega arith)) (λ l. e (omega arith)) in
    rw (a 0 (omega arith), u)

pub scanned : (f : ℕ → Bool) {tests : ℕ → Bool → Type 0} (s : List ℕ) (from r : ℕ) → ((b : ℕ) (q : Bool) → tests b q → q ≡ f b) → Scanned tests s from r → r ≡ scan f s from
unfolding scan
scanned f s from r h w =
    let n = r - from in
    let e : from + n ≡ r = omega (arith, w.ahead) in
    let u : until f (drop from s) ≡ n =
    until_is f (drop from s) n (omega (arith, length-drop from s, w.within))
    (λ k l. rw get_or-drop (sym (h _ _ (w.passed (from + k) (omega arith) (omega (arith, w.ahead))))))
    (λ l. rw (get_or-drop, e) (sym (h _ _ (w.stopped (omega (arith, length-drop from s, w.ahead)))))) in
    omega arith

-- what it finds: no byte before it passes the test, and it does, unless the text ends there

pub until_le : (f : ℕ → Bool) (t : List ℕ) → until f t ≤ length t
unfolding until
until_le f [] = omega arith
until_le f (b ∷ t) = let h = until_le f t in by_test (f b) (λ e. rw e (omega arith)) (λ e. rw e (omega arith))

pub until_before : (f : ℕ → Bool) (t : List ℕ) → all_of (λ b. not (f b)) (take (until f t) t) ≡ true
unfolding until all_of
until_before f [] = refl
until_before f (b ∷ t) = by_test (f b) (λ e. rw e) (λ e. rw (e, e, until_before f t))

pub until_at : (f : ℕ → Bool) (t : List ℕ) → until f t < length t → f (get_or t (until f t) 0) ≡ true
unfolding until
until_at f [] h = absurd (omega arith)
until_at f (b ∷ t) h =
    by_test (f b) (λ e. rw e e)
    (λ e.
    let k : suc (until f t) < suc (length t) = rw e at h in
    rw e (until_at f t (omega arith)))
