-- Demands 2 and 3 on the bytes that route writes. Assumes nothing.
use Prim.Native.Nat.{ℕ, zero, suc, ◌+◌, ◌≤◌, ◌<◌}
use mathlib.Core.Path.{◌≡◌, refl, sym, ap, ap₂, ◌∙◌}
use Rattle.std.specs.Prelude.{Some}
use mathlib.Core.List.{List, [], ◌∷◌, ◌++◌, map, Memᴰ}
use native.Mathlib.Omega.{arith}
use lib.ListN.{length, get_or, take}
use Rattle.lists.specs.Lists.{Each, EachPair}
use Rattle.lists.proofs.Laws.{Each-map, Each-both}
use Rattle.board.specs.declared.Net.{Net}
use Rattle.board.specs.Length.{length_of, Allowed, shortest}
use Rattle.board.specs.Job.{Job}
use Rattle.board.specs.Placement.{Placement, Legal}
use Rattle.board.proofs.ShortestShape.{shortest_least}
use Rattle.board.specs.Rival.{Rival, rival_sum}
use Rattle.board.specs.Unbeaten.{FilledTrack, empty_track, numbers, numbers_on, Optimal}
use Rattle.board.specs.Accepted.{AcceptedJob}
use Rattle.packing.specs.Walk.{wires_of}
use Rattle.packing.proofs.ByRow.{best_largest}
use Rattle.planning.specs.Plan.{filled_track, plan_from, plan_of}
use Rattle.planning.proofs.PlanUnbeaten.{all_allowed, plan_unbeaten}
use Rattle.layout.specs.Tree.{DrawnTrack}
use Rattle.layout.specs.ReadBack.{read_layout}
use Rattle.layout.specs.Drawing.{wire_of, points_on, path_length}
use Rattle.routing.specs.DrawnTracks.{drawn_tracks, no_track}
use Rattle.layout.proofs.DrawnLength.{drawn_length_of}
use Rattle.layout.proofs.RoundTrip.{read_layout_lem, layout_text_injective}
use Rattle.sound.specs.Wires.{track_numbers, wires_sum}
use Rattle.sound.specs.Sound.{Sound}
use Rattle.routing.specs.Promises.{ShortestWire, ShortestText, OptimalTrack, UnbeatenText}
use Rattle.lists.proofs.Joins.{Each-mapped}
use Rattle.sound.proofs.Nets.{wire_numbers_lem, wires_sum_of}
use Rattle.sound.proofs.Bounds.{bounded_small, sound_bounded, sound_length}
use Rattle.routing.specs.Route.{route_layout, route_text}
use Rattle.routing.proofs.RouteSound.{drawn_length, route_sound}

-- ---- the drawn track at place i
abbrev drawn_track : Job → ℕ → FilledTrack → DrawnTrack
drawn_track job t tp = record { track = t; sum = tp.sum; wires = map (wire_of job.board t) tp.wires }

drawn_at : (job : Job) (t : ℕ) (plan : List FilledTrack) (i : ℕ) → i < length plan →
    get_or (drawn_tracks job.board t plan) i no_track ≡ drawn_track job (t + i) (get_or plan i empty_track)
unfolding drawn_tracks
drawn_at job t [] i h = absurd (omega arith)
drawn_at job t (tp ∷ tps) zero h = let e : t ≡ t + 0 = omega arith in ap (λ (x : ℕ). drawn_track job x tp) e
drawn_at job t (tp ∷ tps) (suc i) h =
    let e : suc t + i ≡ t + suc i = omega arith in
    drawn_at job (suc t) tps i (omega arith) ∙ ap (λ (x : ℕ). drawn_track job x (get_or tps i empty_track)) e

drawn_before : (job : Job) (t : ℕ) (plan : List FilledTrack) (i : ℕ) → track_numbers (take i (drawn_tracks job.board t plan)) ≡ numbers_on (take i plan)
unfolding drawn_tracks track_numbers numbers_on
drawn_before job t plan zero = refl
drawn_before job t [] (suc i) = refl
drawn_before job t (tp ∷ tps) (suc i) = ap₂ (λ x y. x ++ y) (wire_numbers_lem job t tp.wires) (drawn_before job (suc t) tps i)

-- ---- one track
drawn_optimal : (job : Job) → EachPair (λ a b. a.number < b.number) job.nets → (earlier : List ℕ) (t : ℕ) (tp : FilledTrack) →
    Optimal job earlier t tp → OptimalTrack job earlier t (drawn_track job t tp)
drawn_optimal job rise earlier t tp o =
    let of_job : (ps : List Placement) → Rival job earlier t ps → Each (λ p. Memᴰ p.net job.nets) ps = λ ps r. Each-map ps (λ p w. w.of_job) r.placeable in
    record {
      track_is = refl;
      most = λ ws r.
          let sum : wires_sum job ws ≡ rival_sum r.places =
          ap (wires_sum job) r.drawn ∙ wires_sum_of job rise t r.places (of_job r.places r.rival) in
          omega (arith, o.most r.places r.rival);
      rival = record { places = tp.wires; rival = o.rival; drawn = refl };
      sum_is = wires_sum_of job rise t tp.wires (of_job tp.wires o.rival) ∙ o.sum_is;
    }

-- ---- the wires of a track are drawn at their shortest allowed lengths
drawn_shortest : (job : Job) (t : ℕ) (p : Placement) → 1 ≤ t → t ≤ job.board.tracks → Memᴰ p.net job.nets → Legal job.board p →
    p.shape ≡ shortest job.board p.net → ShortestWire job t (wire_of job.board t p)
unfolding wire_of
drawn_shortest job t p low high m l s =
    let e : path_length (points_on job.board t p) ≡ length_of job.board p.net p.shape = drawn_length_of job t p low high l in
    let f : length_of job.board p.net p.shape ≡ length_of job.board p.net (shortest job.board p.net) = ap (length_of job.board p.net) s in
    record {
      place = p;
      of_job = m;
      legal = l;
      drawn = refl;
      adds_up = e;
      least = λ o a. let least = shortest_least job.board p.net o a in omega arith;
    }

plan_shortest : (job : Job) → ((n : Net) → Memᴰ n job.nets → Allowed job.board n (shortest job.board n)) → (k t : ℕ) (on : List ℕ) (i : ℕ) → Each (λ p. p.shape ≡ shortest job.board p.net) (get_or (plan_from job k t on) i empty_track).wires
unfolding plan_from filled_track wires_of
plan_shortest job allowed zero t on i = tt
plan_shortest job allowed (suc k) t on zero = (best_largest job on t allowed 1 (omega arith)).at_shortest
plan_shortest job allowed (suc k) t on (suc i) = plan_shortest job allowed k (suc t) (on ++ numbers (wires_of job on t)) i

-- ---- the theorems
module _ (job : Job) (a : AcceptedJob job) where
  route_at : (i : ℕ) → i < job.board.tracks → get_or (route_layout job).tracks i no_track ≡ drawn_track job (suc i) (get_or (plan_of job) i empty_track)
  unfolding route_layout
  route_at i h =
      let u = plan_unbeaten job a in
      let e : 1 + i ≡ suc i = omega arith in
      drawn_at job 1 (plan_of job) i (omega (arith, u.count)) ∙ ap (λ (x : ℕ). drawn_track job x (get_or (plan_of job) i empty_track)) e

  -- reading a sound text gives its one layout
  pub sound_read : (text : List ℕ) (s : Sound job text) → read_layout text ≡ Some s.layout
  sound_read text s = rw s.rendered (read_layout_lem s.layout (bounded_small s.layout (sound_bounded job a text s)))

  pub route_read : read_layout (route_text job) ≡ Some (route_layout job)
  unfolding route_text
  route_read =
      let s = route_sound job a in
      sound_read (route_text job) s ∙ ap Some (layout_text_injective s.layout (route_layout job) (sym s.rendered))

  pub route_length : length (route_text job) ≤ 64000
  route_length = sound_length job a (route_text job) (route_sound job a)

  -- demand 3
  pub route_unbeaten : UnbeatenText job (route_text job)
  unfolding route_text route_layout
  route_unbeaten =
      let u = plan_unbeaten job a in
      record {
        layout = route_layout job;
        rendered = refl;
        read = route_read;
        count = drawn_length job 1 (plan_of job) ∙ u.count;
        each = λ i h.
            rw (route_at i h, drawn_before job 1 (plan_of job) i)
            (drawn_optimal job a.numbers_rise (numbers_on (take i (plan_of job))) (suc i) (get_or (plan_of job) i empty_track) (u.each i h));
      }

  -- every printed wire draws its net at its shortest allowed length
  pub route_shortest : (i : ℕ) → i < job.board.tracks → Each (ShortestWire job (suc i)) (get_or (route_layout job).tracks i no_track).wires
  unfolding plan_of
  route_shortest i h =
      let o = (plan_unbeaten job a).each i h in
      let ws = (get_or (plan_of job) i empty_track).wires in
      rw (route_at i h)
      (Each-mapped (wire_of job.board (suc i)) (ShortestWire job (suc i)) ws
      (Each-both ws
      (λ p s w. drawn_shortest job (suc i) p (omega arith) (omega arith) w.of_job w.legal s)
      (plan_shortest job (all_allowed job a) job.board.tracks 1 [] i) o.rival.placeable))

  -- demand 2
  pub route_drawn : ShortestText job (plan_of job) (route_text job)
  unfolding route_text route_layout
  route_drawn =
      record {
        layout = route_layout job;
        rendered = refl;
        read = route_read;
        count = drawn_length job 1 (plan_of job) ∙ (plan_unbeaten job a).count;
        planned = refl;
        wires_shortest = route_shortest;
        bytes_most = route_length;
      }

  -- demands 2 and 3 on bytes that are route's text
  pub route_demanded : (bytes : List ℕ) → bytes ≡ route_text job → ShortestText job (plan_of job) bytes × (Sound job bytes × UnbeatenText job bytes)
  route_demanded bytes e = rw e (route_drawn, (route_sound job a, route_unbeaten))
