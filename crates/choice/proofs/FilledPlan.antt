-- What `fill` computes of the candidates gathered for a track is the plan of the track. Assumes nothing.
use Prim.Native.Nat.{ℕ, zero, suc, ◌+◌, ◌-◌, ◌≤◌, ◌<◌}
use mathlib.Core.Path.{◌≡◌, refl, sym, ap, ap₂, ◌∙◌}
use mathlib.Core.List.{List, ◌∷◌, ◌++◌}
use native.Mathlib.Omega.{arith}
use lib.ListN.{length, get_or, set, drop, replicate, length-set, length-replicate, get_or-replicate, replicate-append-replicate}
use lib.Seq.{get_or-set_same, drop-cons, drop-set-lt, drop_at}
use Rattle.lists.specs.Lists.{EachPair}
use Rattle.lists.proofs.Places.{set_each}
use Rattle.board.specs.Job.{Job}
use Rattle.board.specs.Accepted.{AcceptedJob}
use Rattle.packing.specs.Best.{best}
use Rattle.packing.specs.Walk.{choice_at}
use Rattle.packing.proofs.ByRow.{best_last_lem}
use Rattle.candidates.specs.SlotArrays.{Candidates}
use Rattle.candidates.specs.Gathered.{Gathered}
use Rattle.choice.specs.declared.Pick.{Pick}
use Rattle.std.specs.Prelude.{Option, None}
use Rattle.choice.specs.TrackPlans.{index_of, choices_of, track_plan_of}
use Rattle.choice.specs.Filled.{pick_to, fill_from, filled_plan}
use Rattle.choice.proofs.RowBest.{row_pick_best}

-- ---- lists
-- an element set, and those behind it
drop_set : {A : Type 0} (l : List A) (i : ℕ) (v d : A) → i < length l → drop i (set l i v) ≡ v ∷ drop (suc i) l
drop_set l i v d h =
    let h' : i < length (set l i v) = rw length-set h in
    drop-cons (set l i v) i d h' ∙ ap₂ (λ x xs. x ∷ xs) (get_or-set_same l i v d h) (drop-set-lt (suc i) l i v (omega arith))

drop_replicate : {A : Type 0} (n i : ℕ) (v : A) → i ≤ n → drop i (replicate n v) ≡ replicate (n - i) v
drop_replicate n i v h =
    let e : i + (n - i) ≡ n = omega arith in
    ap (λ m. drop i (replicate m v)) (sym e) ∙ ap (drop i) (sym (replicate-append-replicate i (n - i) v)) ∙ drop_at (replicate i v) (replicate (n - i) v) i (length-replicate i v)

module _ (job : Job) (earlier : List ℕ) (t : ℕ) (c : Candidates) (flags : List ℕ) where
  -- the rows below row j are filled
  pub record FilledBelow (j : ℕ) (table : List ℕ) (choice : List (Option ℕ)) : Type 0 where
    pub table_length : length table ≡ 1026
    pub choice_length : length choice ≡ 1024
    pub bests : (r : ℕ) → j < r → r ≤ job.board.rows + 1 → get_or table r 0 ≡ best job earlier t r
    pub choices : drop j choice ≡ choices_of job earlier t (job.board.rows - j) ++ replicate (1024 - job.board.rows) None

  module _ (g : Gathered job earlier t c flags) (rise : EachPair (λ a b. a.number < b.number) job.nets) (rows : (1 ≤ job.board.rows) × (job.board.rows ≤ 1024)) where
    start_below : FilledBelow job.board.rows (replicate 1026 0) (replicate 1024 None)
    unfolding choices_of
    start_below =
        let e : job.board.rows - job.board.rows ≡ 0 = omega arith in
        record {
          table_length = length-replicate {A = ℕ} 1026 0;
          choice_length = length-replicate {A = Option ℕ} 1024 None;
          bests = λ r a b.
              let q : r ≡ job.board.rows + 1 = omega arith in
              get_or-replicate {A = ℕ} 1026 r 0 0 (omega arith) ∙ sym (ap (best job earlier t) q ∙ best_last_lem job earlier t);
          choices = drop_replicate 1024 job.board.rows None (omega arith) ∙ sym (ap (λ k. choices_of job earlier t k ++ replicate (1024 - job.board.rows) None) e);
        }

    row_below : (i : ℕ) (table : List ℕ) (choice : List (Option ℕ)) → suc i ≤ job.board.rows → FilledBelow (suc i) table choice →
        (p : Pick) → p ≡ pick_to c flags table (suc i) c.count → FilledBelow i (set table (suc i) p.sum) (set choice i p.at)
    unfolding choices_of
    row_below i table choice h b p q =
        let m = row_pick_best job earlier t c flags (suc i) table g rise (omega arith) h b.bests in
        let k : ℕ = job.board.rows - suc i in
        let e : job.board.rows - i ≡ suc k = omega arith in
        let row : suc i ≡ job.board.rows - k = omega arith in
        let chosen : p.at ≡ index_of job (choice_at job earlier t (job.board.rows - k)) =
        ap (λ (x : Pick). x.at) q ∙ m.1 ∙ ap (λ r. index_of job (choice_at job earlier t r)) row in
        record {
          table_length = length-set table (suc i) p.sum ∙ b.table_length;
          choice_length = length-set choice i p.at ∙ b.choice_length;
          bests = λ r a l.
              set_each (λ k x. x ≡ best job earlier t k) table (suc i) p.sum r (omega (arith, b.table_length)) (rw q m.0) (λ (d : r ≡ suc i → ⊥). b.bests r (omega (arith, d)) l);
          choices =
              drop_set choice i p.at None (omega (arith, b.choice_length)) ∙ ap₂ (λ x xs. x ∷ xs) chosen b.choices
              ∙ sym (ap (λ n. choices_of job earlier t n ++ replicate (1024 - job.board.rows) None) e);
        }

    fill_below : (j : ℕ) (table : List ℕ) (choice : List (Option ℕ)) → j ≤ job.board.rows → FilledBelow j table choice → fill_from c flags j table choice ≡ track_plan_of job earlier t
    unfolding fill_from track_plan_of
    fill_below zero table choice h b =
        let e : job.board.rows - 0 ≡ job.board.rows = omega arith in
        let d : choice ≡ choices_of job earlier t job.board.rows ++ replicate (1024 - job.board.rows) None = rw e at b.choices in
        let s = b.bests 1 (omega arith) (omega arith) in
        λ i. record { choice = d i; sum = s i }
    fill_below (suc i) table choice h b = fill_below i _ _ (omega arith) (row_below i table choice h b _ refl)

  pub filled_plan_lem : AcceptedJob job → Gathered job earlier t c flags → filled_plan c flags job.board.rows ≡ track_plan_of job earlier t
  unfolding filled_plan
  filled_plan_lem a g =
      let r = a.board_range.rows_range in
      fill_below g a.numbers_rise r job.board.rows (replicate 1026 0) (replicate 1024 None) (omega arith) (start_below g a.numbers_rise r)
