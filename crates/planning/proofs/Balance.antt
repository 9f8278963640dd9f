-- The balance: all sums of a plan plus the weights of its loose nets are the weights of the nets of the job. Assumes nothing.
use Prim.Native.Nat.{ℕ, zero, suc, ◌+◌, ◌<◌}
use mathlib.Core.Path.{◌≡◌, refl, sym, ap, subst}
use mathlib.Core.Logic.{⊎_elim}
use mathlib.Core.Bool.{true, false, or-true}
use mathlib.Core.List.Memᴰ
use mathlib.Core.List.{List, [], ◌∷◌, ◌++◌, append_assoc, append-nil, Memᴰ}
use native.Mathlib.Omega.{arith}
use lib.Dec.{eqb}
use borrow.Author.Tests.{eq-eqb, ne_eqb}
use Rattle.lists.specs.Lists.{Each, EachPair, any_of}
use Rattle.lists.proofs.Cases.{by_test}
use Rattle.lists.proofs.Laws.{Each-both, Each-at}
use Rattle.board.specs.declared.Net.{Net}
use Rattle.board.specs.Length.{Allowed, shortest, upper}
use Rattle.board.specs.Weight.{weight, weight_sum}
use Rattle.board.specs.Job.{Job}
use Rattle.board.specs.Placement.{Placement, Legal}
use Rattle.board.specs.Rival.{Apart, Rival, rival_sum}
use Rattle.board.specs.Unbeaten.{numbers, numbers_on}
use Rattle.board.specs.Accepted.{AcceptedJob}
use Rattle.board.proofs.ShortestShape.{span_add}
use Rattle.board.proofs.SameNumber.{same_number}
use Rattle.board.specs.Tests.{is_on}
use Rattle.packing.specs.Walk.{wires_of}
use Rattle.board.proofs.ExactTests.{not_on}
use Rattle.planning.specs.Plan.{filled_track, plan_from, plan_of}
use Rattle.planning.specs.Loose.{without, loose_of, sum_of_tracks}
use Rattle.planning.proofs.PlanUnbeaten.{all_allowed, track_optimal}

-- ---- taking one net out
pub without_same : (a b : List ℕ) (ns : List Net) → ((n : Net) → is_on a n ≡ is_on b n) → without a ns ≡ without b ns
unfolding without
without_same a b [] h = refl
without_same a b (n ∷ ns) h = rw (h n, without_same a b ns h)

on_other : (x : ℕ) (on : List ℕ) (n : Net) → (n.number ≡ x → ⊥) → is_on (x ∷ on) n ≡ is_on on n
unfolding is_on any_of
on_other x on n h = rw (ne_eqb n.number x h)

on_self : (x : ℕ) (on : List ℕ) (n : Net) → n.number ≡ x → is_on (x ∷ on) n ≡ true
unfolding is_on any_of
on_self x on n h = rw (eq-eqb n.number x h)

without_other : (x : ℕ) (on : List ℕ) (ns : List Net) → Each (λ n. x < n.number) ns → without (x ∷ on) ns ≡ without on ns
unfolding without
without_other x on [] a = refl
without_other x on (n ∷ ns) a = rw (on_other x on n (λ q. omega (arith, a.0, q)), without_other x on ns a.1)

on_move : (x : ℕ) (on b : List ℕ) (n : Net) → is_on ((x ∷ on) ++ b) n ≡ is_on (on ++ (x ∷ b)) n
unfolding is_on any_of
on_move x [] b n = refl
on_move x (y ∷ on) b n =
    let h = on_move x on b n in
    by_test (eqb n.number y) (λ e. rw e (or-true (eqb n.number x))) (λ e. rw e h)

-- the first net of a list taken out of it
take_first : (on : List ℕ) (ms : List Net) (m : Net) → Each (λ k. m.number < k.number) ms → is_on on m ≡ false →
    weight_sum (without on (m ∷ ms)) ≡ weight m + weight_sum (without (m.number ∷ on) (m ∷ ms))
unfolding without weight_sum
take_first on ms m a h = rw (h, on_self m.number on m refl, without_other m.number on ms a)

module _ (job : Job) where
  take_out : (on : List ℕ) (ns : List Net) (n : Net) → EachPair (λ a b. a.number < b.number) ns → Memᴰ n ns → is_on on n ≡ false →
      weight_sum (without on ns) ≡ weight n + weight_sum (without (n.number ∷ on) ns)
  unfolding without weight_sum
  take_out on [] n r i h = absurd (Memᴰ.not-nil i)
  take_out on (m ∷ ms) n r i h =
      ⊎_elim
      (λ (q : n ≡ m).
      let h' : is_on on m ≡ false = rw q at h in
      subst
      (λ (x : Net). weight_sum (without on (m ∷ ms)) ≡ weight x + weight_sum (without (x.number ∷ on) (m ∷ ms)))
      (sym q)
      (take_first on ms m r.0 h'))
      (λ i'.
      let l : m.number < n.number = Each-at (λ k. m.number < k.number) ms n r.0 i' in
      let below = take_out on ms n r.1 i' h in
      rw (on_other n.number on m (λ (q : m.number ≡ n.number). omega arith))
      (by_test (is_on on m) (λ e. rw e below) (λ e. rw e (omega arith))))
      (Memᴰ.cases_cons i)

  -- ---- taking out the nets of a rival sequence

  -- a net stands once in a rival sequence
  pub once : (p q : Placement) → Legal job.board p → Legal job.board q → Apart p q → p.net ≡ q.net → ⊥
  once p q l k a e =
      let s = span_add p.net in
      let s' = span_add q.net in
      let u = ap upper e in
      a (upper p.net) (omega arith) (omega arith) (omega arith) (omega arith)

  module _ (rise : EachPair (λ a b. a.number < b.number) job.nets) where
    pub next_rival : (on : List ℕ) (t : ℕ) (p : Placement) (ps : List Placement) → Rival job on t (p ∷ ps) → Rival job (p.net.number ∷ on) t ps
    next_rival on t p ps r =
        let w = r.placeable.0 in
        record {
          placeable = Each-both ps (λ q v a. record {
            of_job = v.of_job;
            legal = v.legal;
            clear = v.clear;
            eligible = record {
              fresh = λ i. ⊎_elim
                  (λ (e : q.net.number ≡ p.net.number). once p q w.legal v.legal a (same_number job.nets rise p.net q.net w.of_job v.of_job (sym e)))
                  v.eligible.fresh (Memᴰ.cases_cons i);
              ready = λ m i e. Memᴰ.tail (v.eligible.ready m i e);
            };
          }) r.placeable.1 r.apart.0;
          rising = r.rising.1;
          apart = r.apart.1;
        }

    rival_out : (ps : List Placement) (on : List ℕ) (t : ℕ) → Rival job on t ps →
        weight_sum (without on job.nets) ≡ rival_sum ps + weight_sum (without (on ++ numbers ps) job.nets)
    unfolding rival_sum
    rival_out [] on t r = rw (append-nil on) (omega arith)
    rival_out (p ∷ ps) on t r =
        let w = r.placeable.0 in
        omega (
          arith,
          take_out on job.nets p.net rise w.of_job (not_on on p.net w.eligible.fresh),
          rival_out ps (p.net.number ∷ on) t (next_rival on t p ps r),
          ap weight_sum (without_same ((p.net.number ∷ on) ++ numbers ps) (on ++ (p.net.number ∷ numbers ps)) job.nets (on_move p.net.number on (numbers ps))),
        )

    -- ---- the sum rule
    module _ (allowed : (n : Net) → Memᴰ n job.nets → Allowed job.board n (shortest job.board n)) where
      plan_out : (k t : ℕ) (on : List ℕ) → weight_sum (without on job.nets) ≡
          sum_of_tracks (plan_from job k t on) + weight_sum (without (on ++ numbers_on (plan_from job k t on)) job.nets)
      unfolding plan_from filled_track sum_of_tracks numbers_on
      plan_out zero t on = rw (append-nil on) (omega arith)
      plan_out (suc k) t on =
          let ws = wires_of job on t in
          let rest = plan_from job k (suc t) (on ++ numbers ws) in
          let a = rival_out ws on t (track_optimal job allowed on t).rival in
          let b = (track_optimal job allowed on t).sum_is in
          let c = plan_out k (suc t) (on ++ numbers ws) in
          let d = ap (λ l. weight_sum (without l job.nets)) (append_assoc on (numbers ws) (numbers_on rest)) in
          omega arith

without_none : (ns : List Net) → without [] ns ≡ ns
unfolding without is_on any_of
without_none [] = refl
without_none (n ∷ ns) = ap (λ l. n ∷ l) (without_none ns)

pub sums_add_up : (job : Job) → AcceptedJob job → weight_sum job.nets ≡ sum_of_tracks (plan_of job) + weight_sum (loose_of job (plan_of job))
unfolding plan_of loose_of
sums_add_up job a =
    let p = plan_out job a.numbers_rise (all_allowed job a) job.board.tracks 1 [] in
    rw (without_none job.nets) at p
