-- The filled tracks that the plan of a job by value stands for are those of the model's plan. Assumes nothing.
use Prim.Native.Nat.{ℕ, zero, suc, ◌+◌, ◌-◌, ◌<◌}
use mathlib.Core.Path.{◌≡◌, refl, sym, ap, ap₂, ◌∙◌}
use mathlib.Core.Logic.{⊎_elim}
use mathlib.Core.Bool.{true≢false}
use Rattle.std.specs.Prelude.{Option, None, Some}
use mathlib.Core.List.Memᴰ
use mathlib.Core.List.{List, [], ◌∷◌, ◌++◌, map, Memᴰ}
use native.Mathlib.Omega.{arith}
use lib.Dec.{eqb}
use lib.ListN.{length, get_or, drop, replicate, length-map, drop_of_length-le, get_or-append, get_or-map}
use lib.Seq.{drop-cons}
use borrow.Author.Tests.{eqb-true, eq-eqb, ne_eqb}
use Rattle.lists.specs.Lists.{EachPair}
use Rattle.lists.proofs.Cases.{by_option}
use Rattle.lists.proofs.Laws.{Each-map, Each-at, first_of_some, first_of_none}
use Rattle.lists.proofs.Places.{same_key}
use Rattle.board.specs.declared.Net.{Net}
use Rattle.board.specs.Job.{Job}
use Rattle.board.specs.Placement.{Placement}
use Rattle.board.specs.Rival.{Placeable}
use Rattle.board.specs.Unbeaten.{FilledTrack, empty_track}
use Rattle.board.specs.Accepted.{AcceptedJob}
use Rattle.packing.specs.Walk.{wires_of}
use Rattle.planning.specs.Plan.{filled_track, plan_of}
use Rattle.board.specs.declared.Wired.{Wired}
use Rattle.planner.specs.JobPlans.{wire_with, wired, stand_from, net_plan_of, stored_plan, job_plan_of}
use Rattle.planner.specs.Progressed.{on_first}
use Rattle.planner.specs.Chosen.{stands_at, row_of, last_rows, tracks_from, tracks_of}
use Rattle.planner.proofs.Marks.{wire_here, wire_later}
use Rattle.planner.proofs.Stands.{track_of, WireFound, wire_found, stand_at, stand_other}
use Rattle.planning.proofs.FirstTracks.{plan_length, plan_at}
use Rattle.planner.proofs.Recorded.{wires_rival, wires_differ, tops_differ, wires_fresh}
use Rattle.planner.proofs.RowByRow.{top_at, list_of, by_row, by_row_lem}

-- ---- lists of placements
-- a wire is found by its number, where numbers differ
wire_self : (ps : List Placement) (p : Placement) → EachPair (λ a b. a.net.number ≡ b.net.number → ⊥) ps → Memᴰ p ps → wire_with p.net.number ps ≡ Some p
wire_self [] p d m = absurd (Memᴰ.not-nil m)
wire_self (x ∷ xs) p d m =
    ⊎_elim
    (λ (q : p ≡ x). rw q (wire_here x.net.number x xs (eq-eqb x.net.number x.net.number refl)))
    (λ m'.
    let other = Each-at (λ b. x.net.number ≡ b.net.number → ⊥) xs p d.0 m' in
    wire_later p.net.number x xs (ne_eqb x.net.number p.net.number other) ∙ wire_self xs p d.1 m')
    (Memᴰ.cases_cons m)

-- ---- one net
-- a net that does not stand on track t
elsewhere : (t row : ℕ) (n : Net) (s : Option Wired) → (track_of s ≡ t → ⊥) → stands_at t row n s ≡ []
elsewhere t row n None h = refl
elsewhere t row n (Some w) h = rw (ne_eqb w.track.0 t h)

-- a net with its wire on track t
with_top : (t row : ℕ) (p : Placement) → p.top ≡ row → stands_at t row p.net (Some (wired t p)) ≡ p ∷ []
with_top t row p e = rw (← e, eq-eqb t t refl, eq-eqb p.top p.top refl)

other_top : (t row : ℕ) (n : Net) (p : Placement) → (p.top ≡ row → ⊥) → stands_at t row n (Some (wired t p)) ≡ []
other_top t row n p e = rw (eq-eqb t t refl, ne_eqb p.top row e)

-- ---- one row
module _ (t row : ℕ) (f : Net → Option Wired) (rest : List (Option Wired)) where
  row_empty : (ns : List Net) → ((n : Net) → Memᴰ n ns → stands_at t row n (f n) ≡ []) → row_of t row ns (map f ns ++ rest) ≡ []
  unfolding row_of
  row_empty [] h = refl
  row_empty (n ∷ ns) h = rw (h n (Memᴰ.head refl)) (row_empty ns (λ m i. h m (Memᴰ.tail i)))

  row_one : (ns : List Net) (p : Placement) → EachPair (λ a b. a.number < b.number) ns → Memᴰ p.net ns → stands_at t row p.net (f p.net) ≡ p ∷ [] →
      ((n : Net) → Memᴰ n ns → (n.number ≡ p.net.number → ⊥) → stands_at t row n (f n) ≡ []) → row_of t row ns (map f ns ++ rest) ≡ p ∷ []
  unfolding row_of
  row_one [] p rise m e h = absurd (Memᴰ.not-nil m)
  row_one (n ∷ ns) p rise m e h =
      ⊎_elim
      (λ (q : p.net ≡ n).
      let e' : stands_at t row n (f n) ≡ p ∷ [] = sym (ap (λ x. stands_at t row x (f x)) q) ∙ e in
      rw e' (ap (λ l. p ∷ l) (row_empty ns (λ x i.
      let l = Each-at (λ z. n.number < z.number) ns x rise.0 i in
      h x (Memᴰ.tail i) (λ z. omega (arith, z, ap (λ (y : Net). y.number) q))))))
      (λ m'.
      let l = Each-at (λ z. n.number < z.number) ns p.net rise.0 m' in
      let e' : stands_at t row n (f n) ≡ [] = h n (Memᴰ.head refl) (λ z. omega arith) in
      rw e' (row_one ns p rise.1 m' e (λ x i. h x (Memᴰ.tail i))))
      (Memᴰ.cases_cons m)

module _ (job : Job) (a : AcceptedJob job) where
  -- ---- one track
  module _ (i : ℕ) (h : i < job.board.tracks) where
    abbrev ws : List Placement
    ws = wires_of job (on_first job i) (suc i)

    abbrev stand : Net → Option Wired
    stand n = stand_from 1 (plan_of job) n.number

    wires_at : (get_or (plan_of job) i empty_track).wires ≡ ws
    unfolding filled_track
    wires_at = ap (λ (x : FilledTrack). x.wires) (plan_at job i empty_track h)

    -- a net that has a wire on the track, and one that has none
    on_track : (k : ℕ) (p : Placement) → wire_with k ws ≡ Some p → stand_from 1 (plan_of job) k ≡ Some (wired (suc i) p)
    on_track k p e =
        let s : 1 + i ≡ suc i = omega arith in
        let e' : wire_with k (get_or (plan_of job) i empty_track).wires ≡ Some p = rw wires_at e in
        stand_at 1 k (plan_of job) i p (wires_fresh job a (on_first job i) (suc i) k p e) e' ∙ ap (λ u. Some (wired u p)) s

    off_track : (k : ℕ) → wire_with k ws ≡ None → track_of (stand_from 1 (plan_of job) k) ≡ suc i → ⊥
    off_track k e q =
        let e' : wire_with k (get_or (plan_of job) i empty_track).wires ≡ None = rw wires_at e in
        stand_other 1 k (plan_of job) i (omega arith) e' (omega arith)

    -- a net stands at a row only by a wire whose top is there
    module _ (row : ℕ) where
      not_at : (n : Net) → ((p : Placement) → WireFound n.number ws p → p.top ≡ row → ⊥) → stands_at (suc i) row n (stand n) ≡ []
      not_at n g =
          by_option (wire_with n.number ws)
          (λ e. elsewhere (suc i) row n (stand n) (off_track n.number e))
          (λ p e. rw (on_track n.number p e) (other_top (suc i) row n p (g p (wire_found n.number ws p e))))

      abbrev f : Net → Option Wired
      f n = net_plan_of (plan_of job) n

      pub row_is : (rest : List (Option Wired)) → row_of (suc i) row job.nets (map f job.nets ++ rest) ≡ list_of (top_at row ws)
      row_is rest =
          let r = wires_rival job a (on_first job i) (suc i) in
          by_option (top_at row ws)
          (λ e. rw e (row_empty (suc i) row f rest job.nets (λ n m. not_at n (λ p w q.
          true≢false (sym (eq-eqb p.top row q) ∙ first_of_none (λ x. eqb x.top row) ws p e w.listed)))))
          (λ p e.
          let found = first_of_some (λ x. eqb x.top row) ws p e in
          let top : p.top ≡ row = eqb-true p.top row found.1 in
          let v = Each-at (Placeable job (on_first job i) (suc i)) ws p r.placeable found.0 in
          let self = on_track p.net.number p (wire_self ws p (wires_differ job a (on_first job i) (suc i)) found.0) in
          rw e (row_one (suc i) row f rest job.nets p a.numbers_rise v.of_job
          (rw self (with_top (suc i) row p top))
          (λ n m d. not_at n (λ q w u.
          d (sym w.number_is ∙ ap (λ (x : Placement). x.net.number) (same_key (λ (x : Placement). x.top) ws (tops_differ job a (on_first job i) (suc i)) q p w.listed found.0 (u ∙ sym top)))))))

    rows_are : (k : ℕ) → last_rows job (job_plan_of job) (suc i) k ≡ by_row job.board.rows k ws
    unfolding last_rows by_row job_plan_of stored_plan
    rows_are zero = refl
    rows_are (suc k) = ap₂ ◌++◌ (row_is (job.board.rows - k) (replicate (512 - length job.nets) None)) (rows_are k)

    pub wires_back : last_rows job (job_plan_of job) (suc i) job.board.rows ≡ ws
    wires_back =
        let r = wires_rival job a (on_first job i) (suc i) in
        rows_are job.board.rows ∙
        by_row_lem job.board.rows job.board.rows ws (omega arith) r.rising
        (Each-map ws (λ p v. let l = v.legal in (omega arith, omega arith)) r.placeable)

    sum_back : get_or (job_plan_of job).sums i 0 ≡ (get_or (plan_of job) i empty_track).sum
    unfolding job_plan_of stored_plan
    sum_back =
        get_or-append (map (λ x. x.sum) (plan_of job)) _ 0 i (omega (arith, length-map (plan_of job) (λ x. x.sum), plan_length job)) ∙
        get_or-map (λ (x : FilledTrack). x.sum) (plan_of job) i empty_track

    track_back : record { sum = get_or (job_plan_of job).sums (suc i - 1) 0; wires = last_rows job (job_plan_of job) (suc i) job.board.rows } ≡ get_or (plan_of job) i empty_track
    track_back =
        let e : suc i - 1 ≡ i = omega arith in
        let s = ap (λ x. get_or (job_plan_of job).sums x 0) e ∙ sum_back in
        let w = wires_back ∙ sym wires_at in
        λ x. record { sum = s x; wires = w x }

  -- ---- all tracks
  tracks_back : (k u : ℕ) → u + k ≡ job.board.tracks → tracks_from job (job_plan_of job) k (suc u) ≡ drop u (plan_of job)
  unfolding tracks_from
  tracks_back zero u e = sym (drop_of_length-le (plan_of job) {i = u} (omega (arith, plan_length job)))
  tracks_back (suc k) u e =
      ap₂ ◌∷◌ (track_back u (omega arith)) (tracks_back k (suc u) (omega arith)) ∙ sym (drop-cons (plan_of job) u empty_track (omega (arith, plan_length job)))

  pub tracks_of_plan : tracks_of job (job_plan_of job) ≡ plan_of job
  unfolding tracks_of
  tracks_of_plan = tracks_back job.board.tracks 0 (omega arith)
