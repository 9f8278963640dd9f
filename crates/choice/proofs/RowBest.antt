-- The pick of row j over the candidates is best(j) and the choice for row j, where the table has best(r) for the rows r below: a net
-- that is not eligible fits nowhere, so the pass over the candidates is the pass over all nets. Assumes nothing.
use Prim.Native.Nat.{ℕ, suc, ◌+◌, ◌-◌, ◌≤◌, ◌<◌}
use mathlib.Core.Path.{◌≡◌, refl, sym, ap, ◌∙◌, subst}
use mathlib.Core.Bool.{Bool, true, false, ◌&&◌}
use Rattle.std.specs.Prelude.{None, Some}
use mathlib.Core.List.{List, [], ◌∷◌}
use native.Mathlib.Omega.{arith}
use lib.Dec.{leb, ltb, eqb}
use lib.ListN.{length, get_or, drop}
use borrow.Author.Tests.{leb-true, ltb-true, ltb-false}
use Rattle.lists.specs.Lists.{EachPair}
use Rattle.lists.proofs.Cases.{by_test, and_split}
use Rattle.board.specs.declared.Net.{Net}
use Rattle.board.specs.Length.{shortest, needed}
use Rattle.board.specs.Placement.{first_top, last_top}
use Rattle.board.specs.Weight.{weight}
use Rattle.board.specs.Job.{Job}
use Rattle.board.proofs.ShortestShape.{needed_pos}
use Rattle.board.specs.Tests.{is_eligible, clear_rows}
use Rattle.packing.specs.Fits.{fits_at}
use Rattle.packing.specs.Best.{sum_with, table, best_last}
use Rattle.packing.specs.Best as M
use Rattle.packing.specs.Walk.{choice_at}
use Rattle.packing.proofs.Fitting.{fits_within}
use Rattle.packing.proofs.ByRow.{table_row}
use Rattle.packing.proofs.OnePass as O
use Rattle.candidates.specs.declared.Candidate.{Candidate}
use Rattle.candidates.specs.SlotArrays.{Candidates}
use Rattle.candidates.specs.Gathered.{Eligible, eligible_from, eligible_nets, tops_of, flag, Slot, Slots, Gathered}
use Rattle.choice.specs.declared.Pick.{Pick}
use Rattle.choice.specs.TrackPlans.{index_of}
use Rattle.choice.specs.Filled.{slot, listed, has_clear_top, sum_at, pick_to}
use Rattle.choice.proofs.Picking.{better_more, better_not, pick_suc_taken, pick_suc_passed}
use Rattle.choice.proofs.EligibleNets.{eligible_at, eligible_here, eligible_later, other_fits}
use Rattle.choice.proofs.ChosenIndex.{drop_next, index_of_place}

flag_is : (b : Bool) → eqb (flag b) 1 ≡ b
flag_is true = refl
flag_is false = refl

module _ (job : Job) (earlier : List ℕ) (t : ℕ) (c : Candidates) (flags : List ℕ) (j : ℕ) where
  -- the code's test is the model's
  slot_stands : (i : ℕ) (x : Eligible) → Slot job t c flags i x → is_eligible job earlier x.net ≡ true →
      has_clear_top (listed c i) flags j ≡ fits_at job earlier t x.net j
  unfolding has_clear_top fits_at tops_of
  slot_stands i x s e =
      by_test (leb (first_top x.net (shortest job.board x.net)) j && leb j (last_top job.board x.net (shortest job.board x.net)))
      (λ h.
      let w = and_split _ _ h in
      let f = s.clear j (leb-true _ _ w.0) (leb-true _ _ w.1) in
      rw (e, s.here, h, f) (flag_is (clear_rows job t j (needed job.board x.net))))
      (λ h. rw (e, s.here, h))

  module _ (below best : List ℕ) where
    -- the pick by index and the pick by net are the same
    pub record Same (p : Pick) (q : O.PassPick) : Type 0 where
      pub sum : p.sum ≡ q.sum
      pub net : p.at ≡ index_of job q.net

    -- best(r) stands at index r of `best`, as in the model's `below`
    abbrev Holds : Type 0
    Holds = (n : Net) → fits_at job earlier t n j ≡ true → get_or best (j + needed job.board n) 0 ≡ get_or below (needed job.board n - 1) 0

    abbrev picked_to : ℕ → Pick
    picked_to i = pick_to c flags best j i

    abbrev passed_nets : List Net → O.PassPick → O.PassPick
    passed_nets ns q = O.one_pass job earlier t j below ns q

    slot_sum : Holds → (i : ℕ) (x : Eligible) → Slot job t c flags i x → fits_at job earlier t x.net j ≡ true →
        sum_at (slot c i) best j ≡ sum_with job.board below x.net
    unfolding sum_at sum_with tops_of
    slot_sum h i x s f = rw s.here (ap (λ below_net. weight x.net + below_net) (h x.net f))

    -- one candidate more, and the same net in the pass over all nets; `go` is the rest of both
    step_same : Holds → (i m : ℕ) (x : Eligible) (ns : List Net) (q : O.PassPick) → Slot job t c flags i x → is_eligible job earlier x.net ≡ true →
        Some x.index ≡ index_of job (Some x.net) → Same (picked_to i) q → ((r : O.PassPick) → Same (picked_to (suc i)) r → Same (picked_to m) (passed_nets ns r)) →
        Same (picked_to m) (passed_nets (x.net ∷ ns) q)
    step_same h i m x ns q s e d k go =
        by_test (fits_at job earlier t x.net j)
        (λ f.
        let can : has_clear_top (listed c i) flags j ≡ true = slot_stands i x s e ∙ f in
        let v : sum_at (slot c i) best j ≡ sum_with job.board below x.net = slot_sum h i x s f in
        let a = pick_suc_taken c flags best j i can in
        by_test (ltb q.sum (sum_with job.board below x.net))
        (λ l.
        let l' : q.sum < sum_with job.board below x.net = ltb-true _ _ l in
        let b = better_more (picked_to i) (sum_at (slot c i) best j) (slot c i).net (omega (arith, k.sum)) in
        subst (Same (picked_to m)) (sym (O.scan_take job earlier t j below x.net ns q f l))
        (go (O.took job earlier t j below x.net) (subst (λ p. Same p (O.took job earlier t j below x.net)) (sym (a ∙ b)) (record { sum = v; net = ap (λ (y : Candidate). Some y.net) s.here ∙ d }))))
        (λ l.
        let l' : sum_with job.board below x.net ≤ q.sum = ltb-false _ _ l in
        let b = better_not (picked_to i) (sum_at (slot c i) best j) (slot c i).net (omega (arith, k.sum)) in
        subst (Same (picked_to m)) (sym (O.scan_keep job earlier t j below x.net ns q f l)) (go q (subst (λ p. Same p q) (sym (a ∙ b)) k))))
        (λ f.
        let a = pick_suc_passed c flags best j i (slot_stands i x s e ∙ f) in
        subst (Same (picked_to m)) (sym (O.scan_pass job earlier t j below x.net ns q f)) (go q (subst (λ p. Same p q) (sym a) k)))

    -- the nets from place x on, of which the candidates stand in the slots from i to before m
    scan_same : Holds → EachPair (λ a b. a.number < b.number) job.nets → (ns : List Net) (x i m : ℕ) (q : O.PassPick) → drop x job.nets ≡ ns →
        Slots job t c flags i (eligible_from job earlier x ns) × (m ≡ i + length (eligible_from job earlier x ns)) → Same (picked_to i) q → Same (picked_to m) (passed_nets ns q)
    unfolding eligible_from O.one_pass
    scan_same h r [] x i m q d s k = let e : m ≡ i = omega (arith, s.1) in subst (λ a. Same (picked_to a) q) (sym e) k
    scan_same h r (n ∷ ns) x i m q d s k =
        by_test (is_eligible job earlier n)
        (λ e.
        let s' = subst (λ l. Slots job t c flags i l × (m ≡ i + length l)) (eligible_here job earlier x n ns e) s in
        let s'' : Slots job t c flags (suc i) (eligible_from job earlier (suc x) ns) × (m ≡ suc i + length (eligible_from job earlier (suc x) ns)) = (s'.0.1, s'.1 ∙ omega arith) in
        step_same h i m (eligible_at x n) ns q s'.0.0 e (sym (index_of_place job x r d)) k
        (λ p g. scan_same h r ns (suc x) (suc i) m p (drop_next job.nets x d) s'' g))
        (λ e.
        let s' = subst (λ l. Slots job t c flags i l × (m ≡ i + length l)) (eligible_later job earlier x n ns e) s in
        subst (Same (picked_to m)) (sym (O.scan_pass job earlier t j below n ns q (other_fits job earlier t n j e)))
        (scan_same h r ns (suc x) i m q (drop_next job.nets x d) s' k))

  -- ---- the row: where best has best(r) at index r for the rows r below j
  pub row_pick_best : (best : List ℕ) → Gathered job earlier t c flags → EachPair (λ a b. a.number < b.number) job.nets → 1 ≤ j → j ≤ job.board.rows →
      ((r : ℕ) → j < r → r ≤ job.board.rows + 1 → get_or best r 0 ≡ M.best job earlier t r) →
      ((pick_to c flags best j c.count).sum ≡ M.best job earlier t j) × ((pick_to c flags best j c.count).at ≡ index_of job (choice_at job earlier t j))
  unfolding pick_to M.best choice_at index_of eligible_nets
  row_pick_best best g rise l h b =
      let k : ℕ = job.board.rows - j in
      let row : job.board.rows - k ≡ j = omega arith in
      let next : job.board.rows + 1 - (j + 1) ≡ k = omega arith in
      let last : suc k ≡ job.board.rows + 1 - j = omega arith in
      let holds : Holds (table job earlier t k) best = λ n e.
      let w = fits_within job earlier t n j e in
      let p = needed_pos job.board n in
      let r : j + 1 + (needed job.board n - 1) ≡ j + needed job.board n = omega arith in
      b (j + needed job.board n) (omega arith) (omega arith) ∙ sym (table_row job earlier t j (needed job.board n - 1) (omega arith) ∙ ap (M.best job earlier t) r) in
      let same = scan_same (table job earlier t k) best holds rise job.nets 0 0 c.count (record { sum = best_last job earlier t k; net = None }) refl
      (g.slots, g.count_is ∙ omega arith)
      (record { sum = b (j + 1) (omega arith) (omega arith) ∙ ap (best_last job earlier t) next; net = refl }) in
      (same.sum ∙ (rw row at (O.row_sum job earlier t k)) ∙ ap (best_last job earlier t) last, same.net ∙ ap (index_of job) (rw row at (O.row_net job earlier t k)))
