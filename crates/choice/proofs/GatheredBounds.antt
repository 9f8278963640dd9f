-- Candidates gathered of an accepted job are within the bounds that `fill` asks for. Assumes nothing.
use Prim.Native.Nat.{◌*◌, ℕ, suc, ◌+◌, ◌≤◌, ◌<◌}
use mathlib.Core.Path.{refl, subst}
use mathlib.Core.List.{List, [], ◌∷◌, Memᴰ}
use native.Mathlib.Omega.{arith}
use lib.Dec.{eqb}
use lib.ListN.{length}
use borrow.Author.Tests.{eqb-true, eqb-false}
use Rattle.lists.proofs.Cases.{by_test}
use Rattle.board.specs.declared.Net.{Net}
use Rattle.board.specs.Length.{shortest}
use Rattle.board.specs.Job.{Job}
use Rattle.board.specs.Accepted.{BoardInRange, AcceptedNet, AcceptedJob}
use Rattle.board.proofs.ShortestShape.{needed_covered, needed_pos}
use Rattle.board.proofs.Weights.{weight_range}
use Rattle.board.proofs.Tops.{last_top_room, accepted_fits}
use Rattle.board.specs.Tests.{is_eligible}
use Rattle.candidates.specs.SlotArrays.{Candidates}
use Rattle.candidates.specs.Gathered.{Eligible, eligible_from, eligible_nets, tops_of, candidate_of, Slot, Slots, Gathered}
use Rattle.candidates.proofs.Eligible.{eligible_length}
use Rattle.choice.specs.Filled.{slot, SlotInBounds, InBounds}
use Rattle.choice.proofs.EligibleNets.{eligible_here, eligible_later}

module _ (job : Job) (earlier : List ℕ) (t : ℕ) (c : Candidates) (flags : List ℕ) where
  slot_bounds : (i : ℕ) (x : Eligible) → BoardInRange job.board → AcceptedNet job.board x.net → Slot job t c flags i x → SlotInBounds (slot c i) job.board.rows
  unfolding tops_of
  slot_bounds i x b a s =
      let w = weight_range job.board x.net b a in
      let p = needed_pos job.board x.net in
      let e = needed_covered job.board x.net in
      let l = last_top_room job.board x.net (shortest job.board x.net) (accepted_fits job.board x.net a) in
      let is : SlotInBounds (candidate_of job.board x) job.board.rows = record { need_range = omega arith; room = omega arith; weight_range = omega arith } in
      rw s.here is

  -- slot k of those from i on, which hold the candidates among the nets ns from place x on
  slots_bounds : BoardInRange job.board → (ns : List Net) (x i k : ℕ) → ((n : Net) → Memᴰ n ns → AcceptedNet job.board n) →
      Slots job t c flags i (eligible_from job earlier x ns) × (k < i + length (eligible_from job earlier x ns)) → i ≤ k → SlotInBounds (slot c k) job.board.rows
  unfolding eligible_from
  slots_bounds b [] x i k a s h = absurd (omega (arith, s.1))
  slots_bounds b (n ∷ ns) x i k a s h =
      by_test (is_eligible job earlier n)
      (λ e.
      let s' = subst (λ l. Slots job t c flags i l × (k < i + length l)) (eligible_here job earlier x n ns e) s in
      by_test (eqb k i)
      (λ q. rw (eqb-true k i q) (slot_bounds i _ b (a n (Memᴰ.head refl)) s'.0.0))
      (λ q. slots_bounds b ns (suc x) (suc i) k (λ m l. a m (Memᴰ.tail l)) (s'.0.1, omega (arith, s'.1)) (omega (arith, eqb-false k i q))))
      (λ e.
      let s' = subst (λ l. Slots job t c flags i l × (k < i + length l)) (eligible_later job earlier x n ns e) s in
      slots_bounds b ns (suc x) i k (λ m l. a m (Memᴰ.tail l)) s' h)

  pub gathered_bounds : AcceptedJob job → Gathered job earlier t c flags → length job.nets * 1024 ≤ length flags → InBounds c flags job.board.rows
  unfolding eligible_nets
  gathered_bounds a g f =
      let m = eligible_length job earlier job.nets 0 in
      let n = a.nets_count in
      record {
        rows_range = a.board_range.rows_range;
        count_range = omega (arith, g.count_is);
        flags_range = omega (arith, g.count_is);
        slots = λ i h. slots_bounds a.board_range job.nets 0 0 i a.nets_each (g.slots, omega (arith, g.count_is)) (omega arith);
      }
