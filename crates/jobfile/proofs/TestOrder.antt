-- Tests in the order of their numbers: a line is refused for that of its faults which has the smallest number. Assumes nothing.
use Prim.Native.Nat.{◌≤◌, ◌<◌}
use mathlib.Core.Path.{◌≡◌, ap}
use mathlib.Core.Logic.{⊎_elim}
use mathlib.Core.Bool.{Bool, true, false}
use mathlib.Core.List.Memᴰ
use mathlib.Core.List.{List, [], ◌∷◌, map, Memᴰ}
use native.Mathlib.Omega.{arith}
use Rattle.lists.specs.Lists.{Each, EachPair}
use Rattle.lists.proofs.Cases.{by_test}
use Rattle.jobfile.specs.declared.Refusal.{Refusal}
use Rattle.jobfile.specs.Read.{State, Next, go, stop, unless}
use Rattle.jobfile.specs.Answers.{number_of}

-- the fault with the smallest number
pub record Least (F : Refusal → Type 0) (o : Refusal) : Type 0 where
  pub fault : F o
  pub least : (p : Refusal) → F p → number_of o ≤ number_of p

-- a line with the faults F is refused for the least of them, or goes on to a state of which G holds and has none
abbrev pub Judged : (Refusal → Type 0) → (State → Type 0) → Next → Type 0
Judged F G (go s) = G s × ((o : Refusal) → F o → ⊥)
Judged F G (stop o) = Least F o

pub judged_same : (F H : Refusal → Type 0) (G : State → Type 0) (x : Next) → ((o : Refusal) → F o → H o) →
    ((o : Refusal) → H o → F o) → Judged F G x → Judged H G x
judged_same F H G (go s) f h j = (j.0, λ o p. j.1 o (h o p))
judged_same F H G (stop o) f h j = record { fault = f o j.fault; least = λ p q. j.least p (h p q) }

-- a test of a line, and what the text is refused for where it fails
pub record LineTest : Type 0 where
  pub passed : Bool
  pub otherwise : Refusal

abbrev pub test : Bool → Refusal → LineTest
test passed o = record { passed = passed; otherwise = o }

-- one test after another
abbrev pub tested : List LineTest → Next → Next
tested [] x = x
tested (t ∷ ts) x = unless t.passed t.otherwise (tested ts x)

-- the tests stand in the order of the document's numbers
abbrev pub Rising : List LineTest → Type 0
Rising ts = EachPair (λ s t. number_of s.otherwise < number_of t.otherwise) ts

-- a test fails exactly where the line has the fault that it stands for
pub record StandsFor (F : Refusal → Type 0) (t : LineTest) : Type 0 where
  pub fails : t.passed ≡ false → F t.otherwise
  pub passes : t.passed ≡ true → F t.otherwise → ⊥

-- so does each, where those before it have passed
abbrev pub Standing : (Refusal → Type 0) → List LineTest → Type 0
Standing F [] = Unit {0}
Standing F (t ∷ ts) = StandsFor F t × (t.passed ≡ true → Standing F ts)

-- what the tests stand for
abbrev pub outcomes : List LineTest → List Refusal
outcomes ts = map (λ t. t.otherwise) ts

-- where they rise, a fault of a later test has a larger number
later_number : (t : LineTest) (ts : List LineTest) (p : Refusal) → Each (λ u. number_of t.otherwise < number_of u.otherwise) ts →
    Memᴰ p (outcomes ts) → number_of t.otherwise ≤ number_of p
later_number t [] p a m = absurd (Memᴰ.not-nil m)
later_number t (u ∷ ts) p a m =
    ⊎_elim
    (λ (q : p ≡ u.otherwise). omega (arith, a.0, ap number_of q))
    (λ i. later_number t ts p a.1 i)
    (Memᴰ.cases_cons m)

module _ (F : Refusal → Type 0) (G : State → Type 0) (s : State) (good : G s) where
  -- tests that rise and stand for all the faults of a line
  pub tested_judged : (ts : List LineTest) → Rising ts → Standing F ts → ((o : Refusal) → F o → Memᴰ o (outcomes ts)) →
      Judged F G (tested ts (go s))
  unfolding unless
  tested_judged [] r a c = (good, λ o f. Memᴰ.not-nil (c o f))
  tested_judged (t ∷ ts) r a c =
      let rest = tested_judged ts r.1 in
      by_test t.passed
      (λ e. rw e (rest (a.1 e) (λ o f. ⊎_elim
      (λ (q : o ≡ t.otherwise). absurd (a.0.passes e (rw q at f)))
      (λ m. m)
      (Memᴰ.cases_cons (c o f)))))
      (λ e. rw e (record {
        fault = a.0.fails e;
        least = λ p f. ⊎_elim
            (λ (q : p ≡ t.otherwise). omega (arith, ap number_of q))
            (λ m. later_number t ts p r.0 m)
            (Memᴰ.cases_cons (c p f));
      }))
