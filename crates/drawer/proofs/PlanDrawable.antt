-- The plan of an accepted job can be drawn, and its text is the text that route writes. Assumes nothing.
use Prim.Native.Nat.{ℕ, suc, ◌+◌, ◌-◌, ◌<◌}
use mathlib.Core.Path.{◌≡◌, refl, sym, ap, ◌∙◌}
use mathlib.Core.Logic.{◌⊎◌, inl, inr, ⊎_elim}
use mathlib.Core.Bool.{true, false≢true}
use Rattle.std.specs.Prelude.{None, Some}
use mathlib.Core.List.{List, [], ◌∷◌, map}
use native.Mathlib.Omega.{arith}
use lib.Dec.{eqb}
use lib.ListN.{length, get_or, take, length-map, replicate}
use lib.Seq.{take_at}
use borrow.Author.Tests.{eqb-true}
use Rattle.lists.specs.Lists.{EachPair}
use Rattle.lists.proofs.Cases.{by_option, and_split}
use Rattle.lists.proofs.Laws.{Each-at}
use Rattle.lists.proofs.Joins.{Each-each, Each-mapped, EachPair-map, EachPair-mapped}
use Rattle.lists.proofs.Places.{same_key}
use Rattle.board.specs.Job.{Job}
use Rattle.board.specs.Placement.{Placement, Legal}
use Rattle.board.specs.Rival.{Placeable, Rival}
use Rattle.board.specs.Unbeaten.{FilledTrack, empty_track, numbers_on}
use Rattle.board.specs.Accepted.{AcceptedJob}
use Rattle.routing.specs.Route.{route_layout, route_text}
use Rattle.planning.specs.Plan.{plan_of}
use Rattle.planning.proofs.PlanUnbeaten.{plan_unbeaten}
use Rattle.planner.specs.JobPlans.{wire_with, wired, stand_from, net_plan_of, stored_plan, job_plan_of}
use Rattle.planner.proofs.Stands.{wire_found, stand_here, stand_later}
use Rattle.planner.proofs.TracksOfPlan.{tracks_of_plan}
use Rattle.planner.proofs.PlanIsBest.{loose_of_plan}
use Rattle.drawer.specs.PlanText.{plan_layout, plan_text, is_at, DrawableWire, OtherPlace, DrawablePlan}

pub plan_is_route : (job : Job) → AcceptedJob job → plan_text job (job_plan_of job) ≡ route_text job
unfolding plan_text plan_layout route_text route_layout
plan_is_route job a = rw (tracks_of_plan job a, loose_of_plan job)

rising_differ : (ps : List Placement) → EachPair (λ p q. p.top < q.top) ps → EachPair (λ p q. p.top ≡ q.top → ⊥) ps
rising_differ ps a = EachPair-map ps (λ p q l (e : p.top ≡ q.top). omega arith) a

-- ---- where a net stands
-- a wire of the net with number k, on the track at place i of tracks that begin with track t
record StandFound (t k : ℕ) (trs : List FilledTrack) : Type 0 where
  i : ℕ
  wire : Placement
  below : i < length trs
  found : wire_with k (get_or trs i empty_track).wires ≡ Some wire
  is : stand_from t trs k ≡ Some (wired (t + i) wire)

stand_cases : (t k : ℕ) (trs : List FilledTrack) → (stand_from t trs k ≡ None) ⊎ StandFound t k trs
unfolding stand_from
stand_cases t k [] = inl refl
stand_cases t k (tr ∷ trs) =
    by_option (wire_with k tr.wires)
    (λ e.
    ⊎_elim
    (λ (q : stand_from (suc t) trs k ≡ None). inl (stand_later t k tr trs e ∙ q))
    (λ (f : StandFound (suc t) k trs).
    let s : suc t + f.i ≡ t + suc f.i = omega arith in
    inr (record { i = suc f.i; wire = f.wire; below = omega (arith, f.below); found = f.found; is = stand_later t k tr trs e ∙ f.is ∙ ap (λ u. Some (wired u f.wire)) s }))
    (stand_cases (suc t) k trs))
    (λ p e.
    let s : t ≡ t + 0 = omega arith in
    inr (record { i = 0; wire = p; below = omega arith; found = e; is = stand_here t k tr trs p e ∙ ap (λ u. Some (wired u p)) s }))

-- a wire on track t with its top at a row
at_there : (t row u : ℕ) (p : Placement) → is_at t row (Some (wired u p)) ≡ true → (u ≡ t) × (p.top ≡ row)
at_there t row u p h = let b = and_split (eqb u t) (eqb p.top row) h in (eqb-true u t b.0, eqb-true p.top row b.1)

-- ---- the plan of an accepted job
module _ (job : Job) (a : AcceptedJob job) where
  abbrev plan : List FilledTrack
  plan = plan_of job

  abbrev on : ℕ → List Placement
  on i = (get_or plan i empty_track).wires

  -- the wires of a track are a rival sequence
  track_rival : (i : ℕ) → i < length plan → Rival job (numbers_on (take i plan)) (suc i) (on i)
  track_rival i h = let u = plan_unbeaten job a in (u.each i (omega (arith, u.count))).rival

  wire_legal : (k : ℕ) (f : StandFound 1 k plan) → Legal job.board f.wire
  wire_legal k f =
      let w = wire_found k (on f.i) f.wire f.found in
      (Each-at (Placeable job (numbers_on (take f.i plan)) (suc f.i)) (on f.i) f.wire (track_rival f.i f.below).placeable w.listed).legal

  stand_drawable : (k : ℕ) → DrawableWire (stand_from 1 plan k)
  stand_drawable k =
      ⊎_elim
      (λ (e : stand_from 1 plan k ≡ None). rw e tt)
      (λ (f : StandFound 1 k plan).
      let l = wire_legal k f in
      let r = a.board_range in
      let c = (plan_unbeaten job a).count in
      let h = f.below in
      rw f.is (omega arith, omega arith, omega arith, omega arith, omega arith))
      (stand_cases 1 k plan)

  -- two nets with the same top row on one track have the same wire, and so the same number
  same_place : (t row k m : ℕ) (f : StandFound 1 k plan) (g : StandFound 1 m plan) → is_at t row (stand_from 1 plan k) ≡ true → is_at t row (stand_from 1 plan m) ≡ true → k ≡ m
  same_place t row k m f g e e' =
      let p = at_there t row (1 + f.i) f.wire (rw f.is at e) in
      let q = at_there t row (1 + g.i) g.wire (rw g.is at e') in
      let tops : f.wire.top ≡ g.wire.top = p.1 ∙ sym q.1 in
      let tracks : g.i ≡ f.i = omega (arith, p.0, q.0) in
      let v = wire_found k (on f.i) f.wire f.found in
      let w = wire_found m (on f.i) g.wire (rw tracks at g.found) in
      let same = same_key (λ (x : Placement). x.top) (on f.i) (rising_differ (on f.i) (track_rival f.i f.below).rising) f.wire g.wire v.listed w.listed tops in
      sym v.number_is ∙ ap (λ (x : Placement). x.net.number) same ∙ w.number_is

  stands_apart : (k m : ℕ) → k < m → OtherPlace (stand_from 1 plan k) (stand_from 1 plan m)
  stands_apart k m h t row e e' =
      ⊎_elim
      (λ (q : stand_from 1 plan k ≡ None). absurd (false≢true (rw q at e)))
      (λ (f : StandFound 1 k plan).
      ⊎_elim
      (λ (q : stand_from 1 plan m ≡ None). absurd (false≢true (rw q at e')))
      (λ (g : StandFound 1 m plan). omega (arith, same_place t row k m f g e e'))
      (stand_cases 1 m plan))
      (stand_cases 1 k plan)

  pub plan_drawable : DrawablePlan job (job_plan_of job)
  unfolding job_plan_of stored_plan
  plan_drawable =
      let f = net_plan_of plan in
      let e = take_at (map f job.nets) (replicate (512 - length job.nets) None) (length job.nets) (length-map job.nets f) in
      record {
        each = rw e (Each-mapped f DrawableWire job.nets (Each-each job.nets (λ n _. stand_drawable n.number)));
        apart = rw e (EachPair-mapped f OtherPlace job.nets (EachPair-map job.nets (λ n m l. stands_apart n.number m.number l) a.numbers_rise));
      }
