-- Each track of a sound layout is a rival sequence, so no sound layout has a larger first sum than an unbeaten text. Assumes nothing.
use Prim.Native.Nat.{ℕ, zero, suc, ◌+◌, ◌≤◌, ◌<◌}
use mathlib.Core.Path.{◌≡◌}
use mathlib.Core.List.{List, [], ◌∷◌, ◌++◌, append_assoc, append-nil}
use native.Mathlib.Omega.{arith}
use native.Mathlib.Nat.{add-zero}
use lib.ListN.{length, get_or, take}
use Rattle.lists.specs.Lists.{EachPair}
use Rattle.lists.proofs.Laws.{Each-both}
use Rattle.board.specs.Job.{Job}
use Rattle.board.specs.Accepted.{AcceptedJob}
use Rattle.layout.specs.Tree.{DrawnTrack}
use Rattle.sound.specs.Wires.{RivalWires, wire_numbers, track_numbers, line_numbers, wires_sum}
use Rattle.sound.specs.Sound.{SoundTrack, SoundTracks, Sound}
use Rattle.routing.specs.DrawnTracks.{no_track}
use Rattle.routing.specs.Promises.{UnbeatenText}
use Rattle.sound.proofs.Sums.{Distinct}
use Rattle.drc.proofs.SoundToRules.{fresh_of}

module _ (job : Job) (rise : EachPair (λ a b. a.number < b.number) job.nets) where
  track_rival : (earlier : List ℕ) (t : ℕ) (tr : DrawnTrack) (rest : List ℕ) → SoundTrack job earlier t tr → Distinct (earlier ++ (wire_numbers tr.wires ++ rest)) →
      RivalWires job earlier t tr.wires
  track_rival earlier t tr rest s d =
      record {
        places = s.places;
        rival = record {
          placeable = Each-both s.places
              (λ p l f. record { of_job = l.of_job; legal = l.legal; clear = l.clear; eligible = record { fresh = f; ready = l.ready } })
              s.placed (fresh_of job rise t earlier s.places rest (rw s.drawn at d));
          rising = s.rising;
          apart = s.apart;
        };
        drawn = s.drawn;
      }

  tracks_rival : (earlier : List ℕ) (t : ℕ) (trs : List DrawnTrack) (rest : List ℕ) → SoundTracks job earlier t trs → Distinct (earlier ++ (track_numbers trs ++ rest)) →
      (i : ℕ) → i < length trs → RivalWires job (earlier ++ track_numbers (take i trs)) (t + i) (get_or trs i no_track).wires
  unfolding track_numbers
  tracks_rival earlier t [] rest s d i h = absurd (omega arith)
  tracks_rival earlier t (tr ∷ trs) rest s d zero h =
      rw (append-nil earlier, add-zero t) (track_rival earlier t tr (track_numbers trs ++ rest) s.0 (rw (append_assoc (wire_numbers tr.wires) (track_numbers trs) rest) at d))
  tracks_rival earlier t (tr ∷ trs) rest s d (suc i) h =
      let ws = wire_numbers tr.wires in
      let e : suc t + i ≡ t + suc i = omega arith in
      let d' : Distinct ((earlier ++ ws) ++ (track_numbers trs ++ rest)) = rw (append_assoc earlier ws (track_numbers trs ++ rest)) (rw (append_assoc ws (track_numbers trs) rest) at d) in
      rw (append_assoc earlier ws (track_numbers (take i trs)), e) at (tracks_rival (earlier ++ ws) (suc t) trs rest s.1 d' i (omega arith))

sum_at : (job : Job) (earlier : List ℕ) (t : ℕ) (trs : List DrawnTrack) → SoundTracks job earlier t trs → (i : ℕ) → i < length trs →
    wires_sum job (get_or trs i no_track).wires ≡ (get_or trs i no_track).sum
sum_at job earlier t [] s i h = absurd (omega arith)
sum_at job earlier t (tr ∷ trs) s zero h = s.0.sum_is
sum_at job earlier t (tr ∷ trs) s (suc i) h = sum_at job (earlier ++ wire_numbers tr.wires) (suc t) trs s.1 i (omega arith)

module _ (job : Job) (a : AcceptedJob job) (text : List ℕ) (s : Sound job text) where
  -- the wires of a track are a rival sequence, with earlier tracks as written
  pub sound_rival : (i : ℕ) → i < job.board.tracks → RivalWires job (track_numbers (take i s.layout.tracks)) (suc i) (get_or s.layout.tracks i no_track).wires
  unfolding line_numbers
  sound_rival i h =
      let e : 1 + i ≡ suc i = omega arith in
      rw e at (tracks_rival job a.numbers_rise [] 1 s.layout.tracks s.layout.loose s.tracks s.once i (omega (arith, s.count)))

  -- an unbeaten text has the largest first sum of all sound layouts
  pub first_sum_most : (other : List ℕ) (u : UnbeatenText job other) → (get_or s.layout.tracks 0 no_track).sum ≤ (get_or u.layout.tracks 0 no_track).sum
  unfolding track_numbers
  first_sum_most other u =
      let k = a.board_range.tracks_range in
      let some_track : 0 < job.board.tracks = omega arith in
      omega (
        arith,
        (u.each 0 some_track).most (get_or s.layout.tracks 0 no_track).wires (sound_rival 0 some_track),
        sum_at job [] 1 s.layout.tracks s.tracks 0 (omega (arith, s.count)),
      )
