-- The wires of the walk are a rival sequence, and their sum is best. Assumes nothing.
use Prim.Native.Nat.{ℕ, zero, suc, ◌+◌, ◌-◌, ◌≤◌, ◌<◌}
use mathlib.Core.Path.{◌≡◌, refl, sym, ap, ◌∙◌}
use mathlib.Core.Logic.{◌⊎◌, inl, inr, ⊎_elim}
use mathlib.Core.Bool.{Bool, true, true≢false}
use Rattle.std.specs.Prelude.{None, Some}
use mathlib.Core.List.{List, [], ◌∷◌, Memᴰ}
use native.Mathlib.Omega.{arith}
use lib.Dec.{leb, eqb}
use borrow.Author.Tests.{leb-true, leb-false, eqb-true, eq-eqb}
use lib.ListN.{get_or}
use Rattle.lists.specs.Lists.{Each}
use Rattle.lists.proofs.Cases.{by_test, by_option, and_split, and_both}
use Rattle.lists.proofs.Laws.{Each-map, first_of_some, first_of_none}
use Rattle.board.specs.declared.Net.{Net}
use Rattle.board.specs.Length.{Allowed, shortest, needed}
use Rattle.board.specs.Weight.{weight}
use Rattle.board.specs.Job.{Job}
use Rattle.board.specs.Placement.{Placement, shortest_at}
use Rattle.board.specs.Rival.{Rival, rival_sum}
use Rattle.board.proofs.ShortestShape.{needed_pos}
use Rattle.board.proofs.Tops.{shortest_bottom}
use Rattle.packing.specs.Fits.{fits_at}
use Rattle.packing.specs.Best.{sum_with, best_at, table, best_last}
use Rattle.packing.specs.Walk.{reaches, choice, walk}
use Rattle.packing.proofs.Fitting.{fits_placeable, fits_within}
use Rattle.packing.proofs.UpperBound.{best_last_suc, table_at}
use Rattle.std.proofs.lemmas.Option.{none-some}

module _ (job : Job) (earlier : List ℕ) (t : ℕ) where
  -- net n's shortest placement may stand with its top at row j
  abbrev fits : Net → ℕ → Bool
  fits n j = fits_at job earlier t n j

  -- best of the last k rows
  abbrev best_here : ℕ → ℕ
  best_here k = best_last job earlier t k

  -- a net of ns fits at row j and has the sum v there
  pub record Reached (j : ℕ) (below : List ℕ) (ns : List Net) (v : ℕ) : Type 0 where
    pub net : Net
    pub listed : Memᴰ net ns
    pub fit : fits net j ≡ true
    pub sum : sum_with job.board below net ≡ v

  -- v is best(j + 1), or a net of ns reaches it at row j
  abbrev Source : ℕ → List ℕ → List Net → ℕ → Type 0
  Source j below ns v = (v ≡ get_or below 0 0) ⊎ Reached j below ns v

  later : (j : ℕ) (below : List ℕ) (n : Net) (ns : List Net) (v w : ℕ) → w ≡ v → Source j below ns v → Source j below (n ∷ ns) w
  later j below n ns v w q (inl h) = inl (q ∙ h)
  later j below n ns v w q (inr r) = inr (record { net = r.net; listed = Memᴰ.tail r.listed; fit = r.fit; sum = r.sum ∙ sym q })

  pub best_at_source : (j : ℕ) (below : List ℕ) (ns : List Net) → Source j below ns (best_at job earlier t j below ns)
  unfolding best_at
  best_at_source j below [] = inl refl
  best_at_source j below (n ∷ ns) =
      let rest : ℕ = best_at job earlier t j below ns in
      let h = best_at_source j below ns in
      by_test (fits n j)
      (λ e. rw e (by_test (leb rest (sum_with job.board below n))
      (λ l. let l' : rest ≤ sum_with job.board below n = leb-true _ _ l in inr (record { net = n; listed = Memᴰ.head refl; fit = e; sum = omega arith }))
      (λ l. let l' : sum_with job.board below n < rest = leb-false _ _ l in later j below n ns rest _ (omega arith) h)))
      (λ e. rw e (later j below n ns rest rest refl h))

  -- ---- the choice of a row
  -- net n is one of the job, fits with its top at row H − k, and reaches best there
  pub record Chosen (k : ℕ) (n : Net) : Type 0 where
    pub listed : Memᴰ n job.nets
    pub fit : fits n (job.board.rows - k) ≡ true
    pub sum : weight n + best_here (suc k - needed job.board n) ≡ best_here (suc k)

  reached_reaches : (k : ℕ) (r : Reached (job.board.rows - k) (table job earlier t k) job.nets (best_at job earlier t (job.board.rows - k) (table job earlier t k) job.nets)) → reaches job earlier t k r.net ≡ true
  unfolding reaches
  reached_reaches k r = and_both _ _ r.fit (eq-eqb _ _ (r.sum ∙ sym (best_last_suc job earlier t k)))

  -- no net is chosen: best(j) = best(j + 1)
  pub choice_none : (k : ℕ) → choice job earlier t k ≡ None → best_here (suc k) ≡ best_here k
  unfolding choice best_last
  choice_none k h =
      by_test (eqb (best_here (suc k)) (best_here k))
      (λ e. eqb-true _ _ e)
      (λ e. ⊎_elim (λ q. best_last_suc job earlier t k ∙ q)
      (λ r. absurd (true≢false (sym (reached_reaches k r) ∙ first_of_none (reaches job earlier t k) job.nets r.net (rw e at h) r.listed)))
      (best_at_source (job.board.rows - k) (table job earlier t k) job.nets))

  pub choice_some : (k : ℕ) (n : Net) → choice job earlier t k ≡ Some n → Chosen k n
  unfolding choice reaches sum_with
  choice_some k n h =
      by_test (eqb (best_here (suc k)) (best_here k))
      (λ e. absurd (none-some n (rw e at h)))
      (λ e.
      let f = first_of_some (reaches job earlier t k) job.nets n (rw e at h) in
      let s = and_split (fits n (job.board.rows - k)) (eqb (sum_with job.board (table job earlier t k) n) (best_here (suc k))) f.1 in
      let w = fits_within job earlier t n (job.board.rows - k) s.0 in
      let p = needed_pos job.board n in
      let q : k - (needed job.board n - 1) ≡ suc k - needed job.board n = omega arith in
      let a = table_at job earlier t k (needed job.board n - 1) (omega arith) in
      record { listed = f.0; fit = s.0; sum = omega (arith, ap best_here q, eqb-true (sum_with job.board (table job earlier t k) n) (best_here (suc k)) s.1) })

  -- ---- the walk
  -- placements ps are what the walk of the last k rows gives, past the first `skip` of them: a rival sequence there, with best for its sum
  pub record Walked (k skip : ℕ) (ps : List Placement) : Type 0 where
    pub rival : Rival job earlier t ps
    pub from : Each (λ p. job.board.rows + skip < p.top + k) ps
    pub sum : rival_sum ps ≡ best_here (k - skip)

  pub best_last_zero : best_here 0 ≡ 0
  unfolding best_last table
  best_last_zero = refl

  skip_here : (k skip : ℕ) {ps : List Placement} → Walked k skip ps → Walked (suc k) (suc skip) ps
  skip_here k skip {ps} w =
      let e : k - skip ≡ suc k - suc skip = omega arith in
      record { rival = w.rival; from = Each-map ps (λ p h. omega arith) w.from; sum = w.sum ∙ ap best_here e }

  none_here : (k : ℕ) {ps : List Placement} → choice job earlier t k ≡ None → Walked k 0 ps → Walked (suc k) 0 ps
  none_here k {ps} e w =
      let a : k - 0 ≡ k = omega arith in
      let b : suc k - 0 ≡ suc k = omega arith in
      record { rival = w.rival; from = Each-map ps (λ p h. omega arith) w.from; sum = w.sum ∙ ap best_here a ∙ sym (choice_none k e) ∙ sym (ap best_here b) }

  pub chosen_within : (k : ℕ) (n : Net) → Chosen k n → (k < job.board.rows) × (needed job.board n ≤ suc k)
  chosen_within k n c = omega (arith, fits_within job earlier t n (job.board.rows - k) c.fit)

  module _ (allowed : (n : Net) → Memᴰ n job.nets → Allowed job.board n (shortest job.board n)) where
    some_here : (k : ℕ) (n : Net) {ps : List Placement} → Chosen k n → Walked k (needed job.board n - 1) ps → Walked (suc k) 0 (shortest_at job.board n (job.board.rows - k) ∷ ps)
    unfolding rival_sum
    some_here k n {ps} c w =
        let i = chosen_within k n c in
        let p = needed_pos job.board n in
        let e = shortest_bottom job.board n (job.board.rows - k) in
        let q : k - (needed job.board n - 1) ≡ suc k - needed job.board n = omega arith in
        let b : suc k - 0 ≡ suc k = omega arith in
        record {
          rival = record {
            placeable = (fits_placeable job earlier t n (job.board.rows - k) c.listed (allowed n c.listed) c.fit, w.rival.placeable);
            rising = (Each-map ps (λ x h. omega arith) w.from, w.rival.rising);
            apart = (Each-map ps (λ x h row _ to from _. omega arith) w.from, w.rival.apart);
          };
          from = (omega arith, Each-map ps (λ x h. omega arith) w.from);
          sum = omega (arith, w.sum, ap best_here q, ap best_here b, c.sum);
        }

    pub walk_walked : (k skip : ℕ) → skip ≤ k → Walked k skip (walk job earlier t k skip)
    unfolding walk rival_sum
    walk_walked zero skip h =
        let e : 0 - skip ≡ 0 = omega arith in
        record { rival = record { placeable = tt; rising = tt; apart = tt }; from = tt; sum = rw e (sym best_last_zero) }
    walk_walked (suc k) (suc skip) h =
        skip_here k skip (walk_walked k skip (omega arith))
    walk_walked (suc k) zero h =
        by_option (choice job earlier t k)
        (λ e. rw (e, walk) (none_here k e (walk_walked k 0 (omega arith))))
        (λ n e. rw (e, walk) (some_here k n (choice_some k n e) (walk_walked k (needed job.board n - 1) (omega (arith, chosen_within k n (choice_some k n e))))))
