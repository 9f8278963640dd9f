-- Eligibility by look-up is eligibility: at most one net precedes another, and the lists of placed nets all give the same candidates.
-- Assumes nothing.
use Prim.Native.Nat.{ℕ, zero, suc, ◌+◌, ◌≤◌, ◌<◌}
use mathlib.Core.Path.{◌≡◌, refl, sym, ap, ◌∙◌}
use mathlib.Core.Logic.{⊎_elim}
use mathlib.Core.Bool.{Bool, true, false, not, ◌||◌, true≢false, or-true}
use Rattle.std.specs.Prelude.{Option, None, Some}
use Rattle.std.specs.Option.{is_some}
use Rattle.std.specs.List.{position_from}
use Rattle.board.specs.declared.Wired.{Wired}
use mathlib.Core.List.Memᴰ
use mathlib.Core.List.{List, [], ◌∷◌, ◌++◌, Memᴰ}
use native.Mathlib.Omega.{arith}
use lib.Dec.{eqb}
use lib.ListN.{length, get_or}
use borrow.Author.Tests.{eq-eqb, ne_eqb}
use Rattle.lists.specs.Lists.{Each, EachPair, any_of, all_of}
use Rattle.lists.proofs.Cases.{by_test}
use Rattle.lists.proofs.Laws.{all_of_at, all_of_of, Each-at}
use Rattle.lists.proofs.Places.{mem_at, same_key}
use Rattle.board.specs.declared.Net.{Net}
use Rattle.board.specs.Job.{Job}
use Rattle.board.specs.Stored.{no_net}
use Rattle.board.specs.Accepted.{AcceptedJob}
use Rattle.board.specs.Tests.{is_on, is_before, is_eligible}
use Rattle.board.specs.Tests as tests
use Rattle.board.proofs.ExactTests.{precedes_exact}
use Rattle.candidates.specs.Placed.{before_in, none_or, eligible_at, Placed, numbers_from, placed_numbers}
use Rattle.candidates.specs.Gathered.{eligible_from, eligible_nets}
use Rattle.candidates.proofs.NetBefore.{before_from, numbers_differ}

-- the index found, by cases
pub position_cases : {P : Type 0} (f : Net → Bool) (xs : List Net) (i : ℕ)
    → (((x : Net) → Memᴰ x xs → f x ≡ false) → position_from f i xs ≡ None → P)
    → ((k : ℕ) → k < length xs → f (get_or xs k no_net) ≡ true → position_from f i xs ≡ Some (i + k) → P)
    → P
position_cases f [] i none found = none (λ x m. absurd (Memᴰ.not-nil m)) refl
position_cases f (x ∷ xs) i none found =
    by_test (f x)
    (λ t.
    let e : i ≡ i + 0 = omega arith in
    found 0 (omega arith) t (rw t (ap (λ (z : ℕ). Some z) e)))
    (λ t.
    position_cases f xs (i + 1)
    (λ g e. none (λ y m. ⊎_elim (λ (q : y ≡ x). ap f q ∙ t) (λ m'. g y m') (Memᴰ.cases_cons m)) (rw t e))
    (λ k l u e.
    let s : i + 1 + k ≡ i + suc k = omega arith in
    found (suc k) (omega arith) u (rw t (e ∙ ap (λ (z : ℕ). Some z) s))))

-- the nets before n all stand on an earlier track, where the one that is found does. `on` tells it of each net
pub all_on : (job : Job) (accepted : AcceptedJob job) (earlier : List ℕ) (on : ℕ → Bool)
    → ((k : ℕ) → k < length job.nets → is_on earlier (get_or job.nets k no_net) ≡ on k) → (n : Net)
    → all_of (λ m. not (is_before m n) || is_on earlier m) job.nets ≡ none_or on (before_in job.nets n)
all_on job accepted earlier on is n =
    let test : Net → Bool = λ m. not (is_before m n) || is_on earlier m in
    rw (before_from job.nets n)
    (position_cases (λ m. is_before m n) job.nets 0
    (λ none e.
    rw (e, all_of_of test job.nets (λ m i. rw (none m i) refl)))
    (λ k l b e.
    let found = get_or job.nets k no_net in
    let z : 0 + k ≡ k = omega arith in
    rw (e, z, ← (is k l))
    (by_test (is_on earlier found)
    (λ o.
    rw (o)
    (all_of_of test job.nets (λ m i.
    by_test (is_before m n)
    (λ t.
    let same = same_key (λ x. x.left.0) job.nets accepted.lefts_differ m found i (mem_at job.nets k no_net l)
    (((precedes_exact m n).0 t).meets ∙ sym ((precedes_exact found n).0 b).meets) in
    rw (ap (λ x. is_on earlier x) same ∙ o) (or-true (not (is_before m n))))
    (λ t. rw t refl))))
    (λ o.
    rw (o)
    (by_test (all_of test job.nets)
    (λ t. absurd (true≢false (sym (all_of_at test job.nets found t (mem_at job.nets k no_net l)) ∙ rw (b, o) refl)))
    (λ t. t))))))

-- a net of the job is eligible exactly if the look-up says so
module _ (job : Job) (accepted : AcceptedJob job) (stands : List (Option Wired)) (earlier : List ℕ) (is : Placed job stands earlier) (n : Net) where
  pub eligible_ready : (i : ℕ) → i < length job.nets → get_or job.nets i no_net ≡ n
      → is_eligible job earlier n ≡ eligible_at (before_in job.nets n) stands i
  unfolding is_eligible tests.is_ready eligible_at all_of
  eligible_ready i h e =
      let on : is_on earlier n ≡ is_some (get_or stands i None) = ap (λ x. is_on earlier x) (sym e) ∙ is.each i h in
      by_test (is_some (get_or stands i None))
      (λ t. rw (on, t) refl)
      (λ t. rw (on, t) (all_on job accepted earlier (λ k. is_some (get_or stands k None)) is.each n))

-- a number that no net of ns has
off_from : (stands : List (Option Wired)) (x : ℕ) (ns : List Net) (i : ℕ) → Each (λ n. x ≡ n.number → ⊥) ns → any_of (eqb x) (numbers_from stands i ns) ≡ false
unfolding any_of numbers_from
off_from stands x [] i a = refl
off_from stands x (n ∷ ns) i a =
    by_test (is_some (get_or stands i None))
    (λ t. rw (t, ne_eqb x n.number a.0) (off_from stands x ns (suc i) a.1))
    (λ t. rw t (off_from stands x ns (suc i) a.1))

-- the number of net k is listed exactly if it has a wire
on_from : (stands : List (Option Wired)) (ns : List Net) (i k : ℕ) → EachPair (λ m n. m.number ≡ n.number → ⊥) ns → k < length ns
    → any_of (eqb (get_or ns k no_net).number) (numbers_from stands i ns) ≡ is_some (get_or stands (i + k) None)
unfolding any_of numbers_from
on_from stands [] i k p h = absurd (omega arith)
on_from stands (n ∷ ns) i zero p h =
    let e : i + 0 ≡ i = omega arith in
    by_test (is_some (get_or stands i None))
    (λ t. rw (e, t, eq-eqb n.number n.number refl))
    (λ t. rw (e, t) (off_from stands n.number ns (suc i) p.0))
on_from stands (n ∷ ns) i (suc k) p h =
    let m = get_or ns k no_net in
    let e : i + suc k ≡ suc i + k = omega arith in
    let rest = on_from stands ns (suc i) k p.1 (omega arith) in
    let d : m.number ≡ n.number → ⊥ = λ q. Each-at (λ y. n.number ≡ y.number → ⊥) ns m p.0 (mem_at ns k no_net (omega arith)) (sym q) in
    by_test (is_some (get_or stands i None))
    (λ t. rw (t, e, ne_eqb m.number n.number d) rest)
    (λ t. rw (t, e) rest)

-- there is a list of the nets placed
pub placed_numbers_lem : (job : Job) (stands : List (Option Wired)) → AcceptedJob job → Placed job stands (placed_numbers job stands)
unfolding is_on placed_numbers
placed_numbers_lem job stands a = record {
  each = λ k h.
      let e : 0 + k ≡ k = omega arith in
      rw e at (on_from stands job.nets 0 k (numbers_differ job.nets a.numbers_rise) h);
}

-- lists of numbers by which the same nets are eligible give the same candidates
same_from : (job : Job) (a b : List ℕ) (ns : List Net) (i : ℕ)
    → ((k : ℕ) → k < length ns → is_eligible job a (get_or ns k no_net) ≡ is_eligible job b (get_or ns k no_net))
    → eligible_from job a i ns ≡ eligible_from job b i ns
unfolding eligible_from
same_from job a b [] i f = refl
same_from job a b (n ∷ ns) i f =
    rw (f 0 (omega arith), same_from job a b ns (suc i) (λ k h. f (suc k) (omega arith)))

-- as any two lists of the nets placed do
pub same_eligible : (job : Job) → AcceptedJob job → (stands : List (Option Wired)) (a b : List ℕ) → Placed job stands a → Placed job stands b
    → eligible_nets job a ≡ eligible_nets job b
unfolding eligible_nets
same_eligible job acc stands a b p q =
    same_from job a b job.nets 0 (λ k h.
    eligible_ready job acc stands a p (get_or job.nets k no_net) k h refl
    ∙ sym (eligible_ready job acc stands b q (get_or job.nets k no_net) k h refl))

-- one more net, eligible or not
module _ (job : Job) (earlier : List ℕ) where
  pub eligible_taken : (ns : List Net) (n : Net) (i : ℕ) → is_eligible job earlier n ≡ true
      → eligible_from job earlier i (ns ++ (n ∷ [])) ≡ eligible_from job earlier i ns ++ (record { index = i + length ns; net = n } ∷ [])
  unfolding eligible_from
  eligible_taken [] n i e =
      let z : i + 0 ≡ i = omega arith in
      rw (e, z)
  eligible_taken (m ∷ ns) n i e =
      let z : suc i + length ns ≡ i + suc (length ns) = omega arith in
      let rest = rw z at (eligible_taken ns n (suc i) e) in
      by_test (is_eligible job earlier m) (λ t. rw (t, rest)) (λ t. rw (t, rest))

  pub eligible_passed : (ns : List Net) (n : Net) (i : ℕ) → is_eligible job earlier n ≡ false
      → eligible_from job earlier i (ns ++ (n ∷ [])) ≡ eligible_from job earlier i ns
  unfolding eligible_from
  eligible_passed [] n i e = rw e
  eligible_passed (m ∷ ns) n i e = rw (eligible_passed ns n (suc i) e)

  pub eligible_length : (ns : List Net) (i : ℕ) → length (eligible_from job earlier i ns) ≤ length ns
  unfolding eligible_from
  eligible_length [] i = omega arith
  eligible_length (m ∷ ns) i =
      let rest = eligible_length ns (suc i) in
      by_test (is_eligible job earlier m) (λ t. rw t (omega arith)) (λ t. rw t (omega arith))
