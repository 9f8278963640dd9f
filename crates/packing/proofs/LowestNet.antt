-- Of the nets that reach best(j) with their top at row j the walk takes that of lowest number. Assumes nothing.
use Prim.Native.Nat.{ℕ, suc, ◌≤◌, ◌<◌}
use mathlib.Core.Path.{◌≡◌, sym, ap, ◌∙◌}
use mathlib.Core.Logic.{⊎_elim}
use mathlib.Core.Bool.{Bool, true, true≢false}
use Rattle.std.specs.Prelude.{Some}
use mathlib.Core.List.Memᴰ
use mathlib.Core.List.{List, [], ◌∷◌, Memᴰ}
use native.Mathlib.Omega.{arith}
use lib.Dec.{eqb}
use Rattle.lists.specs.Lists.{EachPair, first_of}
use Rattle.lists.proofs.Cases.{by_test}
use Rattle.lists.proofs.Laws.{Each-at}
use Rattle.board.specs.declared.Net.{Net}
use Rattle.board.specs.Job.{Job}
use Rattle.packing.specs.Best.{best_last}
use Rattle.packing.specs.Walk.{reaches, choice}
use Rattle.std.proofs.lemmas.Option.{none-some, same_Some}

-- the first net that passes a test has the lowest number of all that pass it, where numbers rise
pub first_of_lowest : (f : Net → Bool) (ns : List Net) (n m : Net) → EachPair (λ a b. a.number < b.number) ns →
    first_of f ns ≡ Some n → Memᴰ m ns → f m ≡ true → n.number ≤ m.number
unfolding first_of
first_of_lowest f [] n m r h i t = absurd (Memᴰ.not-nil i)
first_of_lowest f (x ∷ xs) n m r h i t =
    by_test (f x)
    (λ e.
    let q : x ≡ n = same_Some x n (rw e at h) in
    let l : x.number ≤ m.number = ⊎_elim
    (λ (p : m ≡ x). let z : x.number ≡ m.number = cc in omega arith)
    (λ i'. let z = Each-at (λ y. x.number < y.number) xs m r.0 i' in omega arith)
    (Memᴰ.cases_cons i) in
    rw q at l)
    (λ e. ⊎_elim
    (λ (p : m ≡ x). absurd (true≢false (sym t ∙ ap f p ∙ e)))
    (λ i'. first_of_lowest f xs n m r.1 (rw e at h) i' t)
    (Memᴰ.cases_cons i))

pub choice_lowest : (job : Job) (earlier : List ℕ) (t k : ℕ) (n m : Net) → EachPair (λ a b. a.number < b.number) job.nets →
    choice job earlier t k ≡ Some n → Memᴰ m job.nets → reaches job earlier t k m ≡ true → n.number ≤ m.number
unfolding choice
choice_lowest job earlier t k n m r c i h =
    by_test (eqb (best_last job earlier t (suc k)) (best_last job earlier t k))
    (λ e. absurd (none-some n (rw e at c)))
    (λ e. first_of_lowest (reaches job earlier t k) job.nets n m r (rw e at c) i h)
