-- Document 01, "Choosing a track", as the document says it: best(j), and the step of the walk at row j. Proved in proofs/ByRow.antt of
-- the definitions in Best.antt and Walk.antt; proofs/StepOnly.antt shows that one sum is the largest and that one walk takes these steps.
use Rattle.std.specs.Prelude.{ℕ, ◌+◌, ◌≤◌, ◌≡◌}
use mathlib.Core.List.{List, ◌∷◌, Memᴰ}
use Rattle.board.specs.declared.Net.{Net}
use Rattle.lists.specs.Lists.{Each}
use Rattle.board.specs.Length.{shortest, needed}
use Rattle.board.specs.Weight.{weight}
use Rattle.board.specs.Job.{Job}
use Rattle.board.specs.Placement.{Placement, shortest_at}
use Rattle.board.specs.Rival.{Placeable, Rival, rival_sum}

-- v is the largest sum that placements within rows j to H can have: no rival sequence there has more, at whatever lengths, and `wires`
-- is one of shortest placements that has it
pub record LargestSum (job : Job) (earlier : List ℕ) (t j : ℕ) (wires : List Placement) (v : ℕ) : Type 0 where
  pub most : (ps : List Placement) → Rival job earlier t ps → Each (λ p. j ≤ p.top) ps → rival_sum ps ≤ v
  pub rival : Rival job earlier t wires
  pub within : Each (λ p. j ≤ p.top) wires
  pub at_shortest : Each (λ p. p.shape ≡ shortest job.board p.net) wires
  pub sum_is : rival_sum wires ≡ v

-- with `best` for best(j), net n reaches best(j) with its top at row j
pub record ReachesBest (job : Job) (earlier : List ℕ) (t : ℕ) (best : ℕ → ℕ) (j : ℕ) (n : Net) : Type 0 where
  pub of_job : Memᴰ n job.nets
  pub placeable : Placeable job earlier t (shortest_at job.board n j)
  pub reached : weight n + best (j + needed job.board n) ≡ best j

-- with `walk` for the wires from a row on: if best(j) = best(j + 1), the walk goes to j + 1; otherwise the net of lowest number that
-- reaches best(j) with its top at j is taken, and the walk goes on below it
pub data WalkStep (job : Job) (earlier : List ℕ) (t : ℕ) (best : ℕ → ℕ) (walk : ℕ → List Placement) (j : ℕ) : Type 0 where
  goes_on : best j ≡ best (j + 1) → walk j ≡ walk (j + 1) → WalkStep job earlier t best walk j
  takes : (n : Net) → (best j ≡ best (j + 1) → ⊥) → ReachesBest job earlier t best j n
      → ((m : Net) → ReachesBest job earlier t best j m → n.number ≤ m.number)
      → walk j ≡ shortest_at job.board n j ∷ walk (j + needed job.board n) → WalkStep job earlier t best walk j
