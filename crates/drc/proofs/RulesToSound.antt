-- A text whose tree keeps the rules line by line is a sound layout. Assumes nothing.
use Prim.Native.Nat.{ℕ, suc, ◌≤◌, ◌<◌}
use mathlib.Core.Path.{◌≡◌, refl, sym, ap₂}
use Rattle.std.specs.Prelude.{Some}
use mathlib.Core.List.Memᴰ
use mathlib.Core.List.{List, [], ◌∷◌, ◌++◌, map, map-append, append_assoc, append-nil, Memᴰ}
use native.Mathlib.Omega.{arith}
use Rattle.lists.specs.Lists.{Each, EachPair}
use Rattle.lists.proofs.Laws.{Each-map, Each-at}
use Rattle.lists.proofs.Joins.{Each-join, EachPair-map}
use Rattle.board.specs.Job.{Job}
use Rattle.board.specs.Placement.{Placement, bottom}
use Rattle.layout.specs.Tree.{Wire, DrawnTrack, Layout, opens}
use Rattle.layout.specs.LayoutText.{tracks_then, layout_lines, layout_text}
use Rattle.layout.specs.Drawing.{wire_of}
use Rattle.sound.specs.Wires.{wire_numbers, track_numbers, line_numbers}
use Rattle.sound.specs.Sound.{SoundPlacement, SoundTracks, Sound}
use Rattle.drc.specs.Standing.{lines_read}
use Rattle.drc.specs.Covers.{covers_of}
use Rattle.drc.proofs.Lines.{text_of_lines}
use Rattle.drc.proofs.Drawings.{drawn_some, covers_of_lem}
use Rattle.drc.proofs.WireRule.{WireKept, number_drawn}
use Rattle.drc.proofs.RulesByLine.{end_lines, KeptWires, KeptTracks, KeptLoose, tracks_count}
use Rattle.drc.proofs.JudgedTree.{KeptTree}
use Rattle.drc.proofs.NewNumbers.{NewEach, new_join, new_distinct}

-- the numbers of the nets of a job
abbrev pub net_numbers_of : Job → List ℕ
net_numbers_of job = map (λ n. n.number) job.nets

module _ (job : Job) (rise : EachPair (λ a b. a.number < b.number) job.nets) where
  -- ---- the wires of a track
  module _ (t : ℕ) (earlier : List ℕ) (on_track : 1 ≤ t) (on_board : t ≤ job.board.tracks) where
    -- the placements that the wires vs draw below the wires ws
    record Places (ws vs : List Wire) : Type 0 where
      ps : List Placement
      drawn : vs ≡ map (wire_of job.board t) ps
      placed : Each (SoundPlacement job earlier t) ps
      rows : EachPair (λ p q. bottom p < q.top) ps
      under : Each (λ p. (v : Wire) (q : Placement) → Memᴰ v ws → covers_of job v ≡ Some q → bottom q < p.top) ps

    sound_placement : (ws : List Wire) (v : Wire) (w : WireKept job t earlier ws v) → SoundPlacement job earlier t w.place
    sound_placement ws v w =
        let d = drawn_some job t on_track on_board v w.place w.found in
        record {
          of_job = d.of_job;
          legal = record { allowed = w.allowed; from_one = d.from_one; over_upper = d.over_upper; under_lower = d.under_lower; to_last = d.to_last };
          clear = w.clear;
          ready = w.ready;
        }

    places_of : (ws vs : List Wire) → KeptWires job t earlier ws vs → Places ws vs
    places_of ws [] k = record { ps = []; drawn = refl; placed = tt; rows = tt; under = tt }
    places_of ws (v ∷ vs) k =
        let w = k.0 in
        let d = drawn_some job t on_track on_board v w.place w.found in
        let r = places_of (ws ++ (v ∷ [])) vs k.1 in
        record {
          ps = w.place ∷ r.ps;
          drawn = ap₂ (λ x y. x ∷ y) d.drawn r.drawn;
          placed = (sound_placement ws v w, r.placed);
          rows = (Each-map r.ps (λ p u. u v w.place (Memᴰ.append_right ws (Memᴰ.head refl)) (covers_of_lem job rise t v w.place d)) r.under, r.rows);
          under = (w.under, Each-map r.ps (λ p u x q i d. u x q (Memᴰ.append_left (v ∷ []) i) d) r.under);
        }

    kept_number : (ws : List Wire) (v : Wire) (k : WireKept job t earlier ws v) → k.place.net.number ≡ v.number
    kept_number ws v k = number_drawn (drawn_some job t on_track on_board v k.place k.found)

    new_wires : (ws vs : List Wire) → KeptWires job t earlier ws vs → NewEach (earlier ++ wire_numbers ws) (wire_numbers vs)
    new_wires ws [] k = tt
    new_wires ws (v ∷ vs) k = (
      λ i. k.0.new (Memᴰ.cast (kept_number ws v k.0) i),
      rw (append_assoc earlier (wire_numbers ws) (v.number ∷ []), ← map-append (λ (x : Wire). x.number) ws (v ∷ [])) (new_wires (ws ++ (v ∷ [])) vs k.1),
    )

    known_wires : (ws vs : List Wire) → KeptWires job t earlier ws vs → Each (λ k. Memᴰ k (net_numbers_of job)) (wire_numbers vs)
    known_wires ws [] k = tt
    known_wires ws (v ∷ vs) k =
        let d = drawn_some job t on_track on_board v k.0.place k.0.found in
        (Memᴰ.cast (sym (kept_number ws v k.0)) (Memᴰ.map (λ n. n.number) d.of_job), known_wires (ws ++ (v ∷ [])) vs k.1)

  -- ---- the tracks

  tracks_sound : (t : ℕ) (earlier : List ℕ) (trs : List DrawnTrack) → KeptTracks job t earlier trs → SoundTracks job earlier (suc t) trs
  tracks_sound t earlier [] k = tt
  tracks_sound t earlier (tr ∷ trs) k =
      let c = tracks_count job (suc t) (earlier ++ wire_numbers tr.wires) trs k.3 in
      let r = places_of (suc t) earlier (omega arith) (omega arith) [] tr.wires k.2 in (
        record {
          track_is = k.0;
          places = r.ps;
          drawn = r.drawn;
          placed = r.placed;
          rising = EachPair-map r.ps (λ p q l. omega (arith, l)) r.rows;
          apart = EachPair-map r.ps (λ p q l row a b c d. omega (arith, l)) r.rows;
          sum_is = k.1;
        },
        tracks_sound (suc t) (earlier ++ wire_numbers tr.wires) trs k.3,
      )

  new_tracks : (t : ℕ) (earlier : List ℕ) (trs : List DrawnTrack) → KeptTracks job t earlier trs → NewEach earlier (track_numbers trs)
  unfolding track_numbers
  new_tracks t earlier [] k = tt
  new_tracks t earlier (tr ∷ trs) k =
      let c = tracks_count job (suc t) (earlier ++ wire_numbers tr.wires) trs k.3 in
      new_join earlier (wire_numbers tr.wires) (track_numbers trs)
      (rw (append-nil earlier) at (new_wires (suc t) earlier (omega arith) (omega arith) [] tr.wires k.2))
      (new_tracks (suc t) (earlier ++ wire_numbers tr.wires) trs k.3)

  known_tracks : (t : ℕ) (earlier : List ℕ) (trs : List DrawnTrack) → KeptTracks job t earlier trs → Each (λ k. Memᴰ k (net_numbers_of job)) (track_numbers trs)
  unfolding track_numbers
  known_tracks t earlier [] k = tt
  known_tracks t earlier (tr ∷ trs) k =
      let c = tracks_count job (suc t) (earlier ++ wire_numbers tr.wires) trs k.3 in
      Each-join (λ j. Memᴰ j (net_numbers_of job)) (wire_numbers tr.wires) (track_numbers trs)
      (known_wires (suc t) earlier (omega arith) (omega arith) [] tr.wires k.2) (known_tracks (suc t) (earlier ++ wire_numbers tr.wires) trs k.3)

  -- ---- the loose lines

  new_loose : (wired ns ks : List ℕ) → KeptLoose job wired ns ks → NewEach (wired ++ ns) ks
  new_loose wired ns [] k = tt
  new_loose wired ns (j ∷ ks) k = (
    k.0.new,
    rw (append_assoc wired ns (j ∷ [])) (new_loose wired (ns ++ (j ∷ [])) ks k.1),
  )

  known_loose : (wired ns ks : List ℕ) → KeptLoose job wired ns ks → Each (λ k. Memᴰ k (net_numbers_of job)) ks
  known_loose wired ns [] k = tt
  known_loose wired ns (j ∷ ks) k = (k.0.known, known_loose wired (ns ++ (j ∷ [])) ks k.1)

  above_loose : (wired ns ks : List ℕ) → KeptLoose job wired ns ks → Each (λ k. (j : ℕ) → Memᴰ j ns → j < k) ks
  above_loose wired ns [] k = tt
  above_loose wired ns (i ∷ ks) k = (k.0.above, Each-map ks (λ x f j m. f j (Memᴰ.append_left (i ∷ []) m)) (above_loose wired (ns ++ (i ∷ [])) ks k.1))

  rise_loose : (wired ns ks : List ℕ) → KeptLoose job wired ns ks → EachPair (λ j k. j < k) ks
  rise_loose wired ns [] k = tt
  rise_loose wired ns (i ∷ ks) k =
      (Each-map ks (λ x f. f i (Memᴰ.append_right ns (Memᴰ.head refl))) (above_loose wired (ns ++ (i ∷ [])) ks k.1), rise_loose wired (ns ++ (i ∷ [])) ks k.1)

  -- ---- the layout

  pub kept_tree_sound : (text : List ℕ) → KeptTree job (lines_read text) → Sound job text
  unfolding layout_text layout_lines line_numbers
  kept_tree_sound text r =
      let l : Layout = record { tracks = r.trs; loose = r.ks } in
      record {
        layout = l;
        rendered = text_of_lines text (opens ∷ tracks_then r.trs (end_lines r.ks)) r.lines_are;
        count = omega (arith, tracks_count job 0 [] r.trs r.tracks);
        tracks = tracks_sound 0 [] r.trs r.tracks;
        loose_rise = rise_loose (track_numbers r.trs) [] r.ks r.looses;
        each = r.none_missing;
        no_other = λ k i. Each-at (λ j. Memᴰ j (net_numbers_of job)) (track_numbers r.trs ++ r.ks) k
            (Each-join (λ j. Memᴰ j (net_numbers_of job)) (track_numbers r.trs) r.ks (known_tracks 0 [] r.trs r.tracks)
            (known_loose (track_numbers r.trs) [] r.ks r.looses)) i;
        once = new_distinct [] (track_numbers r.trs ++ r.ks) (new_join [] (track_numbers r.trs) r.ks (new_tracks 0 [] r.trs r.tracks)
            (rw (append-nil (track_numbers r.trs)) at (new_loose (track_numbers r.trs) [] r.ks r.looses)));
      }
