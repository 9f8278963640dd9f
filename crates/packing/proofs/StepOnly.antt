-- What document 01 says of best(j) and of the walk leaves no choice: one sum is the largest, and the steps give one list of wires. So no clause
-- of `LargestSum` or `WalkStep` that decides can be left out. Assumes nothing.
use Prim.Native.Nat.{ℕ, zero, suc, ◌+◌, ◌≤◌, ◌<◌}
use mathlib.Core.Path.{◌≡◌, sym, ap, ◌∙◌}
use mathlib.Core.List.{List, ◌∷◌}
use native.Mathlib.Omega.{arith}
use lib.Dec.{leb}
use borrow.Author.Tests.{leb-true, leb-false}
use Rattle.lists.specs.Lists.{EachPair}
use Rattle.lists.proofs.Cases.{by_test}
use Rattle.board.specs.declared.Net.{Net}
use Rattle.board.specs.Length.{needed}
use Rattle.board.specs.Job.{Job}
use Rattle.board.specs.Placement.{Placement, shortest_at}
use Rattle.board.proofs.SameNumber.{same_number}
use Rattle.board.proofs.ShortestShape.{needed_pos}
use Rattle.board.proofs.Tops.{shortest_bottom}
use Rattle.packing.specs.Step.{LargestSum, ReachesBest, WalkStep, goes_on, takes}

-- two largest sums are equal
pub largest_only : (job : Job) (earlier : List ℕ) (t j : ℕ) (ps qs : List Placement) (v w : ℕ) →
    LargestSum job earlier t j ps v → LargestSum job earlier t j qs w → v ≡ w
largest_only job earlier t j ps qs v w a b =
    let low = b.most ps a.rival a.within in
    let high = a.most qs b.rival b.within in
    omega (arith, a.sum_is, b.sum_is)

module _ (job : Job) (earlier : List ℕ) (t : ℕ) (rise : EachPair (λ m n. m.number < n.number) job.nets) (best : ℕ → ℕ) (walk other : ℕ → List Placement) where
  -- a net that reaches best(j) ends by row H
  reached_within : (j : ℕ) (n : Net) → ReachesBest job earlier t best j n → j + needed job.board n ≤ job.board.rows + 1
  reached_within j n r = let last = r.placeable.legal.to_last in omega (arith, shortest_bottom job.board n j)

  -- two walks that are the same below row j are the same from row j on
  pub step_only : (j : ℕ) → j ≤ job.board.rows → ((i : ℕ) → j < i → i ≤ job.board.rows + 1 → walk i ≡ other i) →
      WalkStep job earlier t best walk j → WalkStep job earlier t best other j → walk j ≡ other j
  step_only j high below (goes_on e a) (goes_on f b) = a ∙ below (j + 1) (omega arith) (omega arith) ∙ sym b
  step_only j high below (goes_on e a) (takes n rose reached lowest b) = absurd (rose e)
  step_only j high below (takes n rose reached lowest a) (goes_on f b) = absurd (rose f)
  step_only j high below (takes n rose reached lowest a) (takes m rose' reached' lowest' b) =
      let low = lowest m reached' in
      let up = lowest' n reached in
      let same : n ≡ m = same_number job.nets rise n m reached.of_job reached'.of_job (omega arith) in
      let some_row = needed_pos job.board m in
      (rw same at a) ∙
      ap (λ ps. shortest_at job.board m j ∷ ps) (below (j + needed job.board m) (omega arith) (reached_within j m reached')) ∙
      sym b

  -- two walks that take the document's step at every row, and end alike below row H, are the same
  module _ (steps : (j : ℕ) → 1 ≤ j → j ≤ job.board.rows → WalkStep job earlier t best walk j)
      (others : (j : ℕ) → 1 ≤ j → j ≤ job.board.rows → WalkStep job earlier t best other j)
      (ends : walk (job.board.rows + 1) ≡ other (job.board.rows + 1)) where
    walk_last : (k j : ℕ) → job.board.rows + 1 ≤ j + k → 1 ≤ j → j ≤ job.board.rows + 1 → walk j ≡ other j
    walk_last zero j far low high = let e : job.board.rows + 1 ≡ j = omega arith in rw e at ends
    walk_last (suc k) j far low high =
        by_test (leb (job.board.rows + 1) (j + k))
        (λ e. walk_last k j (leb-true (job.board.rows + 1) (j + k) e) low high)
        (λ e.
        let less = leb-false (job.board.rows + 1) (j + k) e in
        by_test (leb j job.board.rows)
        (λ h. step_only j (leb-true j job.board.rows h) (λ i after to. walk_last k i (omega arith) (omega arith) to) (steps j low (leb-true j job.board.rows h)) (others j low (leb-true j job.board.rows h)))
        (λ h. let z = leb-false j job.board.rows h in let q : job.board.rows + 1 ≡ j = omega arith in rw q at ends))

    pub walk_only : walk 1 ≡ other 1
    walk_only = walk_last job.board.rows 1 (omega arith) (omega arith) (omega arith)
