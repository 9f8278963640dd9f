-- best(j) is bounded by the rows from j on, so no sum is too large for a number of the code or for six digits. Assumes nothing.
use Prim.Native.Nat.{ℕ, zero, suc, ◌+◌, ◌-◌, ◌*◌, ◌≤◌}
use mathlib.Core.Path.{◌≡◌, ap}
use mathlib.Core.List.{List, Memᴰ}
use native.Mathlib.Omega.{arith}
use native.Mathlib.Nat.{mul-add}
use lib.Dec.{leb}
use borrow.Author.Tests.{leb-true, leb-false}
use Rattle.lists.proofs.Cases.{by_test, by_option}
use Rattle.board.specs.declared.Net.{Net}
use Rattle.board.specs.Length.{needed}
use Rattle.board.specs.Weight.{weight}
use Rattle.board.specs.Job.{Job}
use Rattle.board.proofs.ShortestShape.{needed_pos}
use Rattle.packing.specs.Best.{best_last}
use Rattle.packing.specs.Walk.{choice}
use Rattle.packing.proofs.WalkIsRival.{choice_none, choice_some, chosen_within, best_last_zero}

-- where no net weighs more than c for each row that it needs
module _ (job : Job) (earlier : List ℕ) (t c : ℕ) (cheap : (n : Net) → Memᴰ n job.nets → weight n ≤ c * needed job.board n) where
  -- best of the last k rows
  abbrev best_here : ℕ → ℕ
  best_here k = best_last job earlier t k

  split_rows : (n : Net) (k : ℕ) → needed job.board n ≤ k → c * needed job.board n + c * (k - needed job.board n) ≡ c * k
  split_rows n k h =
      let e : needed job.board n + (k - needed job.board n) ≡ k = omega arith in
      omega (arith, mul-add c (needed job.board n) (k - needed job.board n), ap (λ x. c * x) e)

  last_le : (k m : ℕ) → m ≤ k → best_here m ≤ c * m
  last_le zero m h =
      let e : m ≡ 0 = omega arith in
      rw e (omega (arith, best_last_zero job earlier t))
  last_le (suc k) m h =
      by_test (leb m k)
      (λ l. last_le k m (leb-true m k l))
      (λ l.
      let e : m ≡ suc k = omega (arith, leb-false m k l) in
      rw e
      (by_option (choice job earlier t k)
      (λ q. omega (arith, choice_none job earlier t k q, last_le k k (omega arith), mul-add c k 1))
      (λ n q.
      let s = choice_some job earlier t k n q in
      let w = chosen_within job earlier t k n s in
      let p = needed_pos job.board n in
      omega (arith, s.sum, cheap n s.listed, split_rows n (suc k) (omega arith), last_le k (suc k - needed job.board n) (omega arith)))))
