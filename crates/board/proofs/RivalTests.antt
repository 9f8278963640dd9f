-- Each clause of `Rival` as a test: a list of placements is a rival sequence exactly if it passes all twelve. Assumes nothing.
use Prim.Native.Nat.{ℕ, ◌≤◌, ◌<◌}
use mathlib.Core.Path.{◌≡◌, refl}
use mathlib.Core.Logic.{◌↔◌, ⊎_elim}
use mathlib.Core.Bool.{Bool, true, not}
use mathlib.Core.List.Memᴰ
use mathlib.Core.List.{List, [], ◌∷◌, Memᴰ}
use native.Mathlib.Omega.{arith}
use lib.Dec.{leb, ltb}
use borrow.Author.Tests.{leb-true, leb-false, ltb-true, ltb-false, lt-ltb}
use Rattle.lists.proofs.Cases.{by_test}
use Rattle.lists.proofs.Joins.{Each-each}
use Rattle.lists.proofs.Laws.{all_of_at}
use Rattle.lists.proofs.Tested.{EachPair-of, all_of-Each, all_pairs-EachPair}
use Rattle.board.specs.Job.{Job}
use Rattle.board.specs.Placement.{Placement, bottom}
use Rattle.board.specs.Rival.{Apart, Rival}
use Rattle.board.specs.Tests.{is_of_job, is_long, is_short, is_from_one, is_over_upper, is_under_lower, is_to_last, is_clear, is_on, is_ready}
use Rattle.board.specs.RivalClauses.{is_rising, is_apart, Clause, passes, clauses, failing, broken_clauses, BreaksOnly}
use Rattle.board.specs.RivalClauses.Clause.{net_of_job, length_from_min, length_to_max, top_from_row_one, top_to_upper, bottom_from_lower, bottom_to_last_row, clear_of_blocks, on_no_earlier_track, preceding_on_earlier_tracks, tops_rise, no_shared_row}
use Rattle.board.proofs.ExactTests.{of_job_exact, long_exact, short_exact, from_one_exact, over_upper_exact, under_lower_exact, to_last_exact, clear_exact, fresh_exact, ready_exact}

-- ---- two placements

pub rising_exact : (p q : Placement) → is_rising p q ≡ true ↔ p.top < q.top
unfolding is_rising
rising_exact p q = (ltb-true _ _, lt-ltb _ _)

pub apart_exact : (p q : Placement) → is_apart p q ≡ true ↔ Apart p q
unfolding is_apart
apart_exact p q = (
  λ h row a b c d.
      by_test (ltb (bottom p) q.top)
      (λ e. omega (arith, ltb-true (bottom p) q.top e))
      (λ e. let f : ltb (bottom q) p.top ≡ true = rw e at h in omega (arith, ltb-true (bottom q) p.top f)),
  λ h.
      by_test (ltb (bottom p) q.top)
      (λ e. rw e)
      (λ e. rw e (by_test (ltb (bottom q) p.top)
      (λ f. f)
      (λ f.
      let a : q.top ≤ bottom p = ltb-false _ _ e in
      let b : p.top ≤ bottom q = ltb-false _ _ f in
      by_test (leb p.top q.top)
      (λ g. absurd (h q.top (omega (arith, leb-true p.top q.top g)) (omega arith) (omega arith) (omega arith)))
      (λ g. absurd (h p.top (omega arith) (omega arith) (omega (arith, leb-false p.top q.top g)) (omega arith)))))),
)

-- ---- the twelve clauses of a rival sequence

clause_listed : (c : Clause) → Memᴰ c clauses
clause_listed net_of_job = Memᴰ.head refl
clause_listed length_from_min = search (Memᴰ.head, Memᴰ.tail) depth 12
clause_listed length_to_max = search (Memᴰ.head, Memᴰ.tail) depth 12
clause_listed top_from_row_one = search (Memᴰ.head, Memᴰ.tail) depth 12
clause_listed top_to_upper = search (Memᴰ.head, Memᴰ.tail) depth 12
clause_listed bottom_from_lower = search (Memᴰ.head, Memᴰ.tail) depth 12
clause_listed bottom_to_last_row = search (Memᴰ.head, Memᴰ.tail) depth 12
clause_listed clear_of_blocks = search (Memᴰ.head, Memᴰ.tail) depth 12
clause_listed on_no_earlier_track = search (Memᴰ.head, Memᴰ.tail) depth 12
clause_listed preceding_on_earlier_tracks = search (Memᴰ.head, Memᴰ.tail) depth 12
clause_listed tops_rise = search (Memᴰ.head, Memᴰ.tail) depth 12
clause_listed no_shared_row = search (Memᴰ.head, Memᴰ.tail) depth 12

none_failing : (f : Clause → Bool) (cs : List Clause) → failing f cs ≡ [] → (c : Clause) → Memᴰ c cs → f c ≡ true
unfolding failing
none_failing f [] h c m = absurd (Memᴰ.not-nil m)
none_failing f (d ∷ ds) h c m =
    by_test (f d)
    (λ e. ⊎_elim (λ (q : c ≡ d). rw q e) (λ m'. none_failing f ds (rw e at h) c m') (Memᴰ.cases_cons m))
    (λ e. let k : d ∷ failing f ds ≡ [] = rw e at h in cc)

failing_none : (f : Clause → Bool) (cs : List Clause) → ((c : Clause) → f c ≡ true) → failing f cs ≡ []
unfolding failing
failing_none f [] h = refl
failing_none f (c ∷ cs) h = rw (h c) (failing_none f cs h)

module _ (job : Job) (earlier : List ℕ) (t : ℕ) (ps : List Placement) where
  pub rival_passes : Rival job earlier t ps → (c : Clause) → passes job earlier t ps c ≡ true
  unfolding passes
  rival_passes r net_of_job = all_of-Each (is_of_job job) ps (λ p w. (of_job_exact job p).1 w.of_job) r.placeable
  rival_passes r length_from_min = all_of-Each (is_long job.board) ps (λ p w. (long_exact job.board p).1 (omega (arith, w.legal.allowed.long))) r.placeable
  rival_passes r length_to_max = all_of-Each (is_short job.board) ps (λ p w. (short_exact job.board p).1 (omega (arith, w.legal.allowed.short))) r.placeable
  rival_passes r top_from_row_one = all_of-Each is_from_one ps (λ p w. (from_one_exact p).1 (omega (arith, w.legal.from_one))) r.placeable
  rival_passes r top_to_upper = all_of-Each is_over_upper ps (λ p w. (over_upper_exact p).1 (omega (arith, w.legal.over_upper))) r.placeable
  rival_passes r bottom_from_lower = all_of-Each is_under_lower ps (λ p w. (under_lower_exact p).1 (omega (arith, w.legal.under_lower))) r.placeable
  rival_passes r bottom_to_last_row = all_of-Each (is_to_last job.board) ps (λ p w. (to_last_exact job.board p).1 (omega (arith, w.legal.to_last))) r.placeable
  rival_passes r clear_of_blocks = all_of-Each (is_clear job t) ps (λ p w. (clear_exact job t p).1 w.clear) r.placeable
  rival_passes r on_no_earlier_track = all_of-Each (λ p. not (is_on earlier p.net)) ps (λ p w. (fresh_exact earlier p.net).1 w.eligible.fresh) r.placeable
  rival_passes r preceding_on_earlier_tracks = all_of-Each (λ p. is_ready job earlier p.net) ps (λ p w. (ready_exact job earlier p.net).1 w.eligible.ready) r.placeable
  rival_passes r tops_rise = all_pairs-EachPair is_rising ps (λ p q h. (rising_exact p q).1 (omega arith)) r.rising
  rival_passes r no_shared_row = all_pairs-EachPair is_apart ps (λ p q. (apart_exact p q).1) r.apart

  pub passes_rival : ((c : Clause) → passes job earlier t ps c ≡ true) → Rival job earlier t ps
  unfolding passes
  passes_rival h = record {
    placeable = Each-each ps (λ p m. record {
      of_job = (of_job_exact job p).0 (all_of_at _ ps p (h net_of_job) m);
      legal = record {
        allowed = record {
          long = omega (arith, (long_exact job.board p).0 (all_of_at _ ps p (h length_from_min) m));
          short = omega (arith, (short_exact job.board p).0 (all_of_at _ ps p (h length_to_max) m));
        };
        from_one = omega (arith, (from_one_exact p).0 (all_of_at _ ps p (h top_from_row_one) m));
        over_upper = omega (arith, (over_upper_exact p).0 (all_of_at _ ps p (h top_to_upper) m));
        under_lower = omega (arith, (under_lower_exact p).0 (all_of_at _ ps p (h bottom_from_lower) m));
        to_last = omega (arith, (to_last_exact job.board p).0 (all_of_at _ ps p (h bottom_to_last_row) m));
      };
      clear = (clear_exact job t p).0 (all_of_at _ ps p (h clear_of_blocks) m);
      eligible = record {
        fresh = λ i. absurd ((fresh_exact earlier p.net).0 (all_of_at _ ps p (h on_no_earlier_track) m) i);
        ready = (ready_exact job earlier p.net).0 (all_of_at _ ps p (h preceding_on_earlier_tracks) m);
      };
    });
    rising = EachPair-of is_rising ps (λ p q b. omega (arith, (rising_exact p q).0 b)) (h tops_rise);
    apart = EachPair-of is_apart ps (λ p q. (apart_exact p q).0) (h no_shared_row);
  }

  pub rival_exact : broken_clauses job earlier t ps ≡ [] ↔ Rival job earlier t ps
  unfolding broken_clauses
  rival_exact = (
    λ h. passes_rival (λ c. none_failing (passes job earlier t ps) clauses h c (clause_listed c)),
    λ r. failing_none (passes job earlier t ps) clauses (rival_passes r),
  )

  pub breaks_only : (c : Clause) → broken_clauses job earlier t ps ≡ c ∷ [] → BreaksOnly job earlier t ps c
  breaks_only c e = (e, λ r. let n = rival_exact.1 r in let z : ◌≡◌ {A = ℕ} 0 1 = cc in omega arith)
