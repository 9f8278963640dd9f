-- best(j) and the walk by row: best(j) is the largest sum of a rival sequence within rows j to H, the walk from row j reaches it, and
-- its step at each row is the one of document 01. Assumes nothing.
use Prim.Native.Nat.{ℕ, zero, suc, ◌+◌, ◌-◌, ◌≤◌, ◌<◌}
use mathlib.Core.Path.{◌≡◌, refl, sym, ap, ◌∙◌}
use mathlib.Core.Bool.{true}
use Rattle.std.specs.Prelude.{Option, None, Some}
use mathlib.Core.List.{List, [], ◌∷◌, Memᴰ}
use native.Mathlib.Omega.{arith}
use borrow.Author.Tests.{eq-eqb}
use lib.ListN.{get_or}
use Rattle.lists.specs.Lists.{Each, EachPair}
use Rattle.lists.proofs.Cases.{by_option, and_both}
use Rattle.lists.proofs.Laws.{Each-map}
use Rattle.board.specs.declared.Net.{Net}
use Rattle.board.specs.Length.{Allowed, shortest, needed}
use Rattle.board.specs.Weight.{weight}
use Rattle.board.specs.Job.{Job}
use Rattle.board.specs.Placement.{Placement, shortest_at}
use Rattle.board.specs.Rival.{Rival, rival_sum}
use Rattle.board.proofs.ShortestShape.{needed_pos}
use Rattle.packing.specs.Fits.{fits_at}
use Rattle.packing.specs.Best.{sum_with, table, best_last, best}
use Rattle.packing.specs.Walk.{reaches, choice, walk, choice_at, walk_from}
use Rattle.packing.specs.Step.{LargestSum, ReachesBest, WalkStep, goes_on, takes}
use Rattle.packing.proofs.Fitting.{fits_placeable, placeable_fits, fits_within}
use Rattle.packing.proofs.UpperBound.{rival_bound, table_at}
use Rattle.packing.proofs.WalkIsRival.{Chosen, choice_none, choice_some, walk_walked, best_last_zero}
use Rattle.packing.proofs.LowestNet.{choice_lowest}
use Rattle.std.proofs.lemmas.Option.{none-some}

module _ (job : Job) (earlier : List ℕ) (t : ℕ) where
  -- best(j)
  abbrev best_here : ℕ → ℕ
  best_here j = best job earlier t j

  -- the choice for row j
  abbrev choice_here : ℕ → Option Net
  choice_here j = choice_at job earlier t j

  -- the wires from row j on
  abbrev walk_here : ℕ → List Placement
  walk_here j = walk_from job earlier t j

  -- ---- the table by rows
  pub best_last_lem : best_here (job.board.rows + 1) ≡ 0
  unfolding best
  best_last_lem =
      let e : job.board.rows + 1 - (job.board.rows + 1) ≡ 0 = omega arith in
      rw e (best_last_zero job earlier t)

  pub table_row : (j i : ℕ) → j + i ≤ job.board.rows → get_or (table job earlier t (job.board.rows - j)) i 0 ≡ best_here (j + 1 + i)
  unfolding best
  table_row j i h =
      let e : job.board.rows - j - i ≡ job.board.rows + 1 - (j + 1 + i) = omega arith in
      table_at job earlier t (job.board.rows - j) i (omega arith) ∙ ap (best_last job earlier t) e

  -- ---- the walk by rows
  -- the wires of the last k rows
  abbrev walk_last : ℕ → List Placement
  walk_last k = walk job earlier t k 0

  pub walk_skip : (k skip : ℕ) → walk job earlier t k skip ≡ walk_last (k - skip)
  unfolding walk
  walk_skip zero skip = let e : 0 ≡ 0 - skip = omega arith in ap walk_last e
  walk_skip (suc k) zero = let e : suc k ≡ suc k - 0 = omega arith in ap walk_last e
  walk_skip (suc k) (suc skip) = let e : k - skip ≡ suc k - suc skip = omega arith in walk_skip k skip ∙ ap walk_last e

  last_none : (k : ℕ) → choice job earlier t k ≡ None → walk_last (suc k) ≡ walk_last k
  unfolding walk
  last_none k c = rw (c, walk)

  last_some : (k : ℕ) (n : Net) → choice job earlier t k ≡ Some n → walk_last (suc k) ≡ shortest_at job.board n (job.board.rows - k) ∷ walk job earlier t k (needed job.board n - 1)
  unfolding walk
  last_some k n c = rw (c, walk)

  pub walk_end : walk_here (job.board.rows + 1) ≡ []
  unfolding walk_from walk
  walk_end = let e : job.board.rows + 1 - (job.board.rows + 1) ≡ 0 = omega arith in ap walk_last e

  pub walk_none : (j : ℕ) → 1 ≤ j → j ≤ job.board.rows → choice_here j ≡ None → walk_here j ≡ walk_here (j + 1)
  unfolding choice_at walk_from
  walk_none j l h c =
      let e : job.board.rows + 1 - j ≡ suc (job.board.rows - j) = omega arith in
      let e' : job.board.rows - j ≡ job.board.rows + 1 - (j + 1) = omega arith in
      ap walk_last e ∙ last_none (job.board.rows - j) c ∙ ap walk_last e'

  pub walk_some : (j : ℕ) (n : Net) → 1 ≤ j → j ≤ job.board.rows → choice_here j ≡ Some n → walk_here j ≡ shortest_at job.board n j ∷ walk_here (j + needed job.board n)
  unfolding choice_at walk_from
  walk_some j n l h c =
      let p = needed_pos job.board n in
      let e : job.board.rows + 1 - j ≡ suc (job.board.rows - j) = omega arith in
      let row : job.board.rows - (job.board.rows - j) ≡ j = omega arith in
      let e' : job.board.rows - j - (needed job.board n - 1) ≡ job.board.rows + 1 - (j + needed job.board n) = omega arith in
      let a = last_some (job.board.rows - j) n c in
      ap walk_last e ∙ (rw (row, walk_skip (job.board.rows - j) (needed job.board n - 1), e') at a)

  -- ---- best(j) is the largest sum of a rival sequence within rows j to H
  best_most : (j : ℕ) (ps : List Placement) → Rival job earlier t ps → Each (λ p. j ≤ p.top) ps → rival_sum ps ≤ best_here j
  unfolding best
  best_most j ps r a = rival_bound job earlier t ps (job.board.rows + 1 - j) r (Each-map ps (λ p h. omega arith) a)

  module _ (allowed : (n : Net) → Memᴰ n job.nets → Allowed job.board n (shortest job.board n)) where
    walk_shortest : (k skip : ℕ) → Each (λ p. p.shape ≡ shortest job.board p.net) (walk job earlier t k skip)
    unfolding walk
    walk_shortest zero skip = tt
    walk_shortest (suc k) (suc skip) = walk_shortest k skip
    walk_shortest (suc k) zero =
        by_option (choice job earlier t k)
        (λ e. rw (e, walk) (walk_shortest k 0))
        (λ n e. rw (e, walk) (refl, walk_shortest k (needed job.board n - 1)))

    pub best_largest : (j : ℕ) → j ≤ job.board.rows + 1 → LargestSum job earlier t j (walk_here j) (best_here j)
    unfolding walk_from best
    best_largest j l =
        let w = walk_walked job earlier t allowed (job.board.rows + 1 - j) 0 (omega arith) in
        let e : job.board.rows + 1 - j - 0 ≡ job.board.rows + 1 - j = omega arith in
        record {
          most = best_most j;
          rival = w.rival;
          within = Each-map (walk_here j) (λ p h. omega arith) w.from;
          at_shortest = walk_shortest (job.board.rows + 1 - j) 0;
          sum_is = w.sum ∙ ap (best_last job earlier t) e;
        }

    -- ---- the step of the walk at row j
    module _ (rise : EachPair (λ a b. a.number < b.number) job.nets) (j : ℕ) (low : 1 ≤ j) (high : j ≤ job.board.rows) where
      -- the rows below row j
      abbrev k : ℕ
      k = job.board.rows - j

      last_here : best_here j ≡ best_last job earlier t (suc k)
      unfolding best
      last_here = let e : job.board.rows + 1 - j ≡ suc k = omega arith in ap (best_last job earlier t) e

      last_next : best_here (j + 1) ≡ best_last job earlier t k
      unfolding best
      last_next = let e : job.board.rows + 1 - (j + 1) ≡ k = omega arith in ap (best_last job earlier t) e

      last_below : (n : Net) → best_here (j + needed job.board n) ≡ best_last job earlier t (suc k - needed job.board n)
      unfolding best
      last_below n =
          let e : job.board.rows + 1 - (j + needed job.board n) ≡ suc k - needed job.board n = omega arith in ap (best_last job earlier t) e

      row_here : job.board.rows - k ≡ j
      row_here = omega arith

      pub reaches_best : (n : Net) → Chosen job earlier t k n → ReachesBest job earlier t best_here j n
      reaches_best n c =
          record {
            of_job = c.listed;
            placeable = fits_placeable job earlier t n j c.listed (allowed n c.listed) (rw row_here at c.fit);
            reached = omega (arith, c.sum, last_here, last_below n);
          }

      pub best_reaches : (m : Net) → ReachesBest job earlier t best_here j m → reaches job earlier t k m ≡ true
      unfolding reaches sum_with
      best_reaches m r =
          let f = placeable_fits job earlier t m j r.placeable in
          let w = fits_within job earlier t m j f in
          let p = needed_pos job.board m in
          let e : k - (needed job.board m - 1) ≡ suc k - needed job.board m = omega arith in
          let a = table_at job earlier t k (needed job.board m - 1) (omega arith) in
          and_both (fits_at job earlier t m (job.board.rows - k)) _ (rw row_here f)
          (eq-eqb (weight m + get_or (table job earlier t k) (needed job.board m - 1) 0) (best_last job earlier t (suc k))
          (omega (arith, r.reached, last_here, last_below m, ap (best_last job earlier t) e)))

      best_rose : (n : Net) → choice_here j ≡ Some n → best_here j ≡ best_here (j + 1) → ⊥
      unfolding choice_at choice
      best_rose n c q =
          let e : best_last job earlier t (suc k) ≡ best_last job earlier t k = sym last_here ∙ q ∙ last_next in
          none-some n (rw (eq-eqb (best_last job earlier t (suc k)) (best_last job earlier t k) e) at c)

      pub walk_step : WalkStep job earlier t best_here walk_here j
      unfolding choice_at
      walk_step =
          by_option (choice_here j)
          (λ c. goes_on (last_here ∙ choice_none job earlier t k c ∙ sym last_next) (walk_none j low high c))
          (λ n c.
          takes n (best_rose n c) (reaches_best n (choice_some job earlier t k n c)) (λ m r. choice_lowest job earlier t (job.board.rows - j) n m rise c r.of_job (best_reaches m r))
          (walk_some j n low high c))
