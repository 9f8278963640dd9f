-- The walk over the plan of a track by value takes the wires of the model's walk: what the loop over the rows keeps. Assumes nothing.
use Prim.Native.Nat.{ℕ, suc, ◌+◌, ◌-◌, ◌≤◌, ◌<◌}
use mathlib.Core.Path.{◌≡◌, refl, sym, ap, ap₂, ◌∙◌}
use Rattle.std.specs.Prelude.{None, Some}
use Rattle.std.proofs.lemmas.Option.{none-some, same_Some}
use mathlib.Core.List.{List, []}
use native.Mathlib.Omega.{arith}
use lib.ListN.{length, get_or, set}
use Rattle.lists.proofs.Cases.{by_option}
use Rattle.board.specs.declared.Net.{Net}
use Rattle.board.specs.declared.Shape.{Shape}
use Rattle.board.specs.Length.{shortest, needed}
use Rattle.board.specs.Job.{Job}
use Rattle.board.specs.Placement.{Placement}
use Rattle.board.specs.Accepted.{AcceptedJob, AcceptedNet}
use Rattle.packing.specs.Walk.{choice_at, walk_from, wires_of}
use Rattle.packing.proofs.Fitting.{fits_within}
use Rattle.packing.proofs.WalkIsRival.{choice_some}
use Rattle.packing.proofs.ByRow.{walk_end, walk_none, walk_some}
use Rattle.choice.specs.declared.TrackPlan.{TrackPlan}
use Rattle.choice.specs.TrackPlans.{index_of, track_plan_of}
use Rattle.planner.specs.declared.JobPlan.{JobPlan}
use Rattle.planner.specs.Progressed.{OnTurn, on_first, progress_to, track_plan}
use Rattle.planner.proofs.ChoiceRows.{place, index_of_lem, index_none, choice_row}
use Rattle.planner.proofs.Marks.{marked}
use Rattle.planner.specs.JobPlans.{wired}
use Rattle.planner.proofs.Recorded.{nets_next, sums_next}

-- net n, with index i, is chosen for row j of track t, with the nets of the tracks before it held
pub record Taken (job : Job) (t j i : ℕ) : Type 0 where
  pub net : Net
  pub chosen : choice_at job (on_first job (t - 1)) t j ≡ Some net
  pub index : i ≡ place job net
  pub below : i < length job.nets
  pub stored : (d : Net) → get_or job.nets i d ≡ net
  pub accepted : AcceptedNet job.board net
  pub room : j + needed job.board net ≤ job.board.rows + 1

-- ---- the choice for row j by value
module _ (job : Job) (a : AcceptedJob job) (t : ℕ) (plan : TrackPlan) (o : plan ≡ track_plan job t) where
  abbrev earlier : List ℕ
  earlier = on_first job (t - 1)

  module _ (j : ℕ) (low : 1 ≤ j) (high : j ≤ job.board.rows) where
    at_is : get_or plan.choice (j - 1) None ≡ index_of job (choice_at job earlier t j)
    at_is = ap (λ (x : TrackPlan). get_or x.choice (j - 1) None) o ∙ choice_row job earlier t j None low high

    taken : (n : Net) → choice_at job earlier t j ≡ Some n → (get_or plan.choice (j - 1) None ≡ Some (place job n)) × Taken job t j (place job n)
    unfolding choice_at
    taken n e =
        let c = choice_some job earlier t (job.board.rows - j) n e in
        let r : job.board.rows - (job.board.rows - j) ≡ j = omega arith in
        let w = fits_within job earlier t n (job.board.rows - (job.board.rows - j)) c.fit in
        let k = index_of_lem job n a.numbers_rise c.listed in (
          at_is ∙ ap (index_of job) e ∙ k.0,
          record {
            net = n;
            chosen = e;
            index = refl;
            below = k.1.below;
            stored = k.1.there;
            accepted = a.nets_each n c.listed;
            room = omega arith;
          },
        )

    pub row_none : ((i : ℕ) → get_or plan.choice (j - 1) None ≡ Some i → ⊥) → choice_at job earlier t j ≡ None
    row_none h =
        by_option (choice_at job earlier t j)
        (λ e. e)
        (λ n e. absurd (h _ (taken n e).0))

    pub row_some : (i : ℕ) → get_or plan.choice (j - 1) None ≡ Some i → Taken job t j i
    row_some i h =
        by_option (choice_at job earlier t j)
        (λ e. absurd (none-some _ (sym (at_is ∙ ap (index_of job) e ∙ index_none job) ∙ h)))
        (λ n e. let k = taken n e in rw (← same_Some (place job n) i (sym k.0 ∙ h)) k.1)

-- ---- what the loop keeps: the wires from row j on, stored over what is there now, give what all the wires give
pub record Walking (job : Job) (t : ℕ) (start now : JobPlan) (j : ℕ) : Type 0 where
  pub low : 1 ≤ j
  pub high : j ≤ job.board.rows + 1
  pub nets_on : marked (place job) (λ p. Some (wired t p)) (walk_from job (on_first job (t - 1)) t j) now.nets ≡
      marked (place job) (λ p. Some (wired t p)) (wires_of job (on_first job (t - 1)) t) start.nets
  pub sums_on : now.sums ≡ start.sums

module _ (job : Job) (t : ℕ) where
  abbrev held : List ℕ
  held = on_first job (t - 1)

  pub walking_start : (p : JobPlan) → Walking job t p p 1
  unfolding wires_of
  walking_start p = record { low = omega arith; high = omega arith; nets_on = refl; sums_on = refl }

  pub walking_none : (p q : JobPlan) (j : ℕ) → Walking job t p q j → j ≤ job.board.rows → choice_at job held t j ≡ None → Walking job t p q (j + 1)
  walking_none p q j w h e =
      let s = sym (walk_none job held t j w.low h e) in
      record { low = omega (arith, w.low); high = omega arith; nets_on = rw s w.nets_on; sums_on = w.sums_on }

-- after the net of a row is stored the walk goes on below it
pub walking_some : (job : Job) (t : ℕ) (p q : JobPlan) (j i : ℕ) (k : Taken job t j i) (shape : Shape) (rows : ℕ) →
    Walking job t p q j → j ≤ job.board.rows → shape ≡ shortest job.board k.net → rows ≡ needed job.board k.net →
    Walking job t p
    (record {
      nets = set q.nets i (Some (record { track = record { 0 = t }; top = record { 0 = j }; shape = shape }));
      sums = q.sums;
    }) (j + rows)
walking_some job t p q j i k shape rows w h e f =
    let x = walk_some job (on_first job (t - 1)) t j k.net w.low h k.chosen in
    rw (f, e, k.index)
    (record {
      low = omega (arith, w.low);
      high = k.room;
      nets_on = rw x at w.nets_on;
      sums_on = w.sums_on;
    })

-- below the last row all wires are stored, and with the track's sum that is what is planned after the track
module _ (job : Job) (a : AcceptedJob job) (t : ℕ) (p : JobPlan) (plan : TrackPlan) (o : OnTurn job t p) (e : plan ≡ track_plan job t) (q : JobPlan) (j : ℕ)
    (w : Walking job t (record { nets = p.nets; sums = set p.sums (t - 1) plan.sum }) q j) (h : job.board.rows < j) where
  abbrev u : ℕ
  u = t - 1

  abbrev wires : List Placement
  wires = wires_of job (on_first job u) t

  from_one : suc u ≡ t
  from_one = omega (arith, o.track_range)

  within : u < job.board.tracks
  within = omega (arith, o.track_range)

  none_left : walk_from job (on_first job u) t j ≡ []
  none_left = let e : j ≡ job.board.rows + 1 = omega (arith, w.high) in ap (walk_from job (on_first job u) t) e ∙ walk_end job (on_first job u) t

  end_nets : q.nets ≡ (progress_to job t).nets
  end_nets =
      (rw none_left at w.nets_on) ∙ ap (λ (x : JobPlan). marked (place job) (λ p. Some (wired t p)) wires x.nets) o.so_far ∙
      (rw from_one at (nets_next job a u within))

  end_sums : q.sums ≡ (progress_to job t).sums
  unfolding track_plan_of
  end_sums =
      w.sums_on ∙ ap₂ (λ (x : JobPlan) (y : TrackPlan). set x.sums u y.sum) o.so_far e ∙
      (rw from_one at (sums_next job a u within))

  pub walking_end : q ≡ progress_to job t
  walking_end = λ i. record { nets = end_nets i; sums = end_sums i }
