-- The text that route writes is a sound layout. Assumes nothing.
use Prim.Native.Nat.{ℕ, zero, suc, ◌<◌}
use mathlib.Core.Path.{◌≡◌, refl, sym, ap, ap₂, ◌∙◌}
use mathlib.Core.Logic.{⊎_elim}
use mathlib.Core.Bool.{true, false, true≢false}
use mathlib.Core.List.{List, [], ◌∷◌, ◌++◌, map, Memᴰ}
use native.Mathlib.Omega.{arith}
use lib.ListN.{length}
use Rattle.lists.specs.Lists.{Each, EachPair}
use Rattle.lists.proofs.Cases.{by_test}
use Rattle.lists.proofs.Laws.{Each-map, Each-both, Each-at, any_of_mem, mem_any_of}
use Rattle.board.specs.declared.Net.{Net}
use Rattle.board.specs.Length.{Allowed, shortest}
use Rattle.board.specs.Job.{Job}
use Rattle.board.specs.Placement.{Placement}
use Rattle.board.specs.Rival.{Rival}
use Rattle.board.specs.Unbeaten.{FilledTrack, numbers, numbers_on}
use Rattle.board.specs.Accepted.{AcceptedJob}
use Rattle.board.proofs.SameNumber.{same_number}
use Rattle.board.specs.Tests.{is_on}
use Rattle.packing.specs.Walk.{wires_of}
use Rattle.planning.specs.Plan.{filled_track, plan_from, plan_of}
use Rattle.planning.specs.Loose.{without, loose_of}
use Rattle.planning.proofs.PlanUnbeaten.{all_allowed, track_optimal, plan_unbeaten}
use Rattle.planning.proofs.Balance.{once}
use Rattle.sound.specs.Wires.{track_numbers, line_numbers}
use Rattle.sound.specs.Sound.{SoundTracks, Sound}
use Rattle.lists.proofs.Joins.{Each-each, Each-join, Each-mapped, EachPair-join, EachPair-map}
use Rattle.sound.proofs.Sums.{Distinct}
use Rattle.sound.proofs.Nets.{wire_numbers_lem, wires_sum_of}
use Rattle.routing.specs.DrawnTracks.{drawn_tracks}
use Rattle.routing.specs.Route.{route_layout, route_text}

abbrev net_numbers : List Net → List ℕ
net_numbers ns = map (λ n. n.number) ns

-- ---- drawn tracks
pub drawn_numbers : (job : Job) (t : ℕ) (plan : List FilledTrack) → track_numbers (drawn_tracks job.board t plan) ≡ numbers_on plan
unfolding drawn_tracks track_numbers numbers_on
drawn_numbers job t [] = refl
drawn_numbers job t (tp ∷ tps) = ap₂ (λ x y. x ++ y) (wire_numbers_lem job t tp.wires) (drawn_numbers job (suc t) tps)

pub drawn_length : (job : Job) (t : ℕ) (plan : List FilledTrack) → length (drawn_tracks job.board t plan) ≡ length plan
unfolding drawn_tracks
drawn_length job t [] = refl
drawn_length job t (tp ∷ tps) = ap suc (drawn_length job (suc t) tps)

-- ---- the numbers of a rival sequence
module _ (job : Job) (rise : EachPair (λ a b. a.number < b.number) job.nets) (on : List ℕ) (t : ℕ) where
  pub rival_listed : (ps : List Placement) → Rival job on t ps → Each (λ k. Memᴰ k (net_numbers job.nets)) (numbers ps)
  rival_listed ps r = Each-mapped (λ p. p.net.number) (λ k. Memᴰ k (net_numbers job.nets)) ps (Each-map ps (λ p w. mathlib.Core.List.Memᴰ.map (λ n. n.number) w.of_job) r.placeable)

  pub rival_fresh : (ps : List Placement) → Rival job on t ps → Each (λ k. Memᴰ k on → ⊥) (numbers ps)
  rival_fresh ps r = Each-mapped (λ p. p.net.number) (λ k. Memᴰ k on → ⊥) ps (Each-map ps (λ p w. w.eligible.fresh) r.placeable)

  pub rival_once : (ps : List Placement) → Rival job on t ps → Distinct (numbers ps)
  rival_once [] r = tt
  rival_once (p ∷ ps) r =
      let w = r.placeable.0 in (
        Each-mapped (λ q. q.net.number) (λ k. p.net.number ≡ k → ⊥) ps
            (Each-both ps (λ q v a e. once job p q w.legal v.legal a (same_number job.nets rise p.net q.net w.of_job v.of_job e)) r.placeable.1 r.apart.0),
        rival_once ps (record { placeable = r.placeable.1; rising = r.rising.1; apart = r.apart.1 }),
      )

-- ---- the plan
module _ (job : Job) (rise : EachPair (λ a b. a.number < b.number) job.nets)
    (allowed : (n : Net) → Memᴰ n job.nets → Allowed job.board n (shortest job.board n)) where
  abbrev planned_tracks : ℕ → ℕ → List ℕ → List FilledTrack
  planned_tracks k t on = plan_from job k t on

  plan_listed : (k t : ℕ) (on : List ℕ) → Each (λ x. Memᴰ x (net_numbers job.nets)) (numbers_on (planned_tracks k t on))
  unfolding plan_from numbers_on filled_track
  plan_listed zero t on = tt
  plan_listed (suc k) t on =
      let ws = wires_of job on t in
      Each-join (λ x. Memᴰ x (net_numbers job.nets)) (numbers ws) (numbers_on (planned_tracks k (suc t) (on ++ numbers ws)))
      (rival_listed job rise on t ws (track_optimal job allowed on t).rival) (plan_listed k (suc t) (on ++ numbers ws))

  plan_fresh : (k t : ℕ) (on : List ℕ) → Each (λ x. Memᴰ x on → ⊥) (numbers_on (planned_tracks k t on))
  unfolding plan_from numbers_on filled_track
  plan_fresh zero t on = tt
  plan_fresh (suc k) t on =
      let ws = wires_of job on t in
      let rest = numbers_on (planned_tracks k (suc t) (on ++ numbers ws)) in
      Each-join (λ x. Memᴰ x on → ⊥) (numbers ws) rest
      (rival_fresh job rise on t ws (track_optimal job allowed on t).rival)
      (Each-map rest (λ x f m. f (mathlib.Core.List.Memᴰ.append_left (numbers ws) m)) (plan_fresh k (suc t) (on ++ numbers ws)))

  plan_once : (k t : ℕ) (on : List ℕ) → Distinct (numbers_on (planned_tracks k t on))
  unfolding plan_from numbers_on filled_track
  plan_once zero t on = tt
  plan_once (suc k) t on =
      let ws = wires_of job on t in
      let rest = numbers_on (planned_tracks k (suc t) (on ++ numbers ws)) in
      EachPair-join (λ i j. i ≡ j → ⊥) (numbers ws) rest
      (rival_once job rise on t ws (track_optimal job allowed on t).rival)
      (plan_once k (suc t) (on ++ numbers ws))
      (Each-each (numbers ws) (λ x i. Each-map rest (λ y f e. f (mathlib.Core.List.Memᴰ.append_right on (mathlib.Core.List.Memᴰ.cast (sym e) i))) (plan_fresh k (suc t) (on ++ numbers ws))))

  pub plan_tracks : (k t : ℕ) (on : List ℕ) → SoundTracks job on t (drawn_tracks job.board t (planned_tracks k t on))
  unfolding plan_from drawn_tracks filled_track
  plan_tracks zero t on = tt
  plan_tracks (suc k) t on =
      let ws = wires_of job on t in
      let r = (track_optimal job allowed on t).rival in (
        record {
          track_is = refl;
          places = ws;
          drawn = refl;
          placed = Each-map ws (λ p w. record { of_job = w.of_job; legal = w.legal; clear = w.clear; ready = w.eligible.ready }) r.placeable;
          rising = r.rising;
          apart = r.apart;
          sum_is = wires_sum_of job rise t ws (Each-map ws (λ p w. w.of_job) r.placeable) ∙ (track_optimal job allowed on t).sum_is;
        },
        rw (wire_numbers_lem job t ws) (plan_tracks k (suc t) (on ++ numbers ws)),
      )

-- ---- the loose nets
without_in : (on : List ℕ) (ns : List Net) (n : Net) → Memᴰ n (without on ns) → (Memᴰ n ns) × (is_on on n ≡ false)
unfolding without
without_in on [] n m = absurd (mathlib.Core.List.Memᴰ.not-nil m)
without_in on (x ∷ xs) n m =
    by_test (is_on on x)
    (λ e. let r = without_in on xs n (rw e at m) in (mathlib.Core.List.Memᴰ.tail r.0, r.1))
    (λ e.
    let m' : Memᴰ n (x ∷ without on xs) = rw e at m in
    ⊎_elim
    (λ (q : n ≡ x). (mathlib.Core.List.Memᴰ.head q, ap (is_on on) q ∙ e))
    (λ i. let r = without_in on xs n i in (mathlib.Core.List.Memᴰ.tail r.0, r.1))
    (mathlib.Core.List.Memᴰ.cases_cons m'))

in_without : (on : List ℕ) (ns : List Net) (n : Net) → Memᴰ n ns → is_on on n ≡ false → Memᴰ n (without on ns)
unfolding without
in_without on [] n m h = absurd (mathlib.Core.List.Memᴰ.not-nil m)
in_without on (x ∷ xs) n m h =
    ⊎_elim
    (λ (q : n ≡ x). let e : is_on on x ≡ false = rw q at h in rw e (mathlib.Core.List.Memᴰ.head q))
    (λ i. by_test (is_on on x) (λ e. rw e (in_without on xs n i h)) (λ e. rw e (mathlib.Core.List.Memᴰ.tail (in_without on xs n i h))))
    (mathlib.Core.List.Memᴰ.cases_cons m)

all_without : (P : Net → Type 0) (on : List ℕ) (ns : List Net) → Each P ns → Each P (without on ns)
unfolding without
all_without P on [] a = tt
all_without P on (x ∷ xs) a = by_test (is_on on x) (λ e. rw e (all_without P on xs a.1)) (λ e. rw e (a.0, all_without P on xs a.1))

rise_without : (on : List ℕ) (ns : List Net) → EachPair (λ a b. a.number < b.number) ns → EachPair (λ j k. j < k) (net_numbers (without on ns))
unfolding without
rise_without on [] r = tt
rise_without on (x ∷ xs) r =
    by_test (is_on on x)
    (λ e. rw e (rise_without on xs r.1))
    (λ e. rw e (Each-mapped (λ n. n.number) (λ k. x.number < k) (without on xs) (all_without (λ n. x.number < n.number) on xs r.0), rise_without on xs r.1))

-- ---- the theorem
pub route_sound : (job : Job) → AcceptedJob job → Sound job (route_text job)
unfolding route_text route_layout line_numbers plan_of loose_of is_on
route_sound job a =
    let rise = a.numbers_rise in
    let allowed = all_allowed job a in
    let plan = plan_from job job.board.tracks 1 [] in
    let on = numbers_on plan in
    let free = without on job.nets in
    let rises = rise_without on job.nets rise in
    let count = (plan_unbeaten job a).count in
    record {
      layout = route_layout job;
      rendered = refl;
      count = drawn_length job _ _ ∙ count;
      tracks = plan_tracks job rise allowed job.board.tracks 1 [];
      loose_rise = rises;
      each = λ n i. rw (drawn_numbers job 1 plan) (
          by_test (is_on on n)
          (λ e. mathlib.Core.List.Memᴰ.append_left (net_numbers free) (any_of_mem n.number on e))
          (λ e. mathlib.Core.List.Memᴰ.append_right on (mathlib.Core.List.Memᴰ.map (λ m. m.number) (in_without on job.nets n i e))));
      no_other = λ k i.
          let i' : Memᴰ k (on ++ net_numbers free) = rw (drawn_numbers job 1 plan) at i in
          ⊎_elim
          (λ j. Each-at (λ x. Memᴰ x (net_numbers job.nets)) on k (plan_listed job rise allowed job.board.tracks 1 []) j)
          (λ j. let m = mathlib.Core.List.Memᴰ.of_map (λ n. n.number) free j in mathlib.Core.List.Memᴰ.cast (sym m.2) (mathlib.Core.List.Memᴰ.map (λ n. n.number) (without_in on job.nets m.0 m.1).0))
          (mathlib.Core.List.Memᴰ.append_cases on i');
      once = rw (drawn_numbers job 1 plan) (
          EachPair-join (λ i j. i ≡ j → ⊥) on (net_numbers free)
          (plan_once job rise allowed job.board.tracks 1 [])
          (EachPair-map (net_numbers free) (λ i j l e. omega (arith, l, e)) rises)
          (Each-each on (λ x i. Each-mapped (λ n. n.number) (λ k. x ≡ k → ⊥) free (Each-each free (λ n j e.
          true≢false (sym (mem_any_of n.number on (mathlib.Core.List.Memᴰ.cast (sym e) i)) ∙ (without_in on job.nets n j).1))))));
    }
