-- Document 01, "A sound layout": the run of a loose net stays free for hand work. In a sound layout no wire has a pin in the row of a loose
-- net's left pin, on either side. Assumes nothing.
use Prim.Native.Nat.{ℕ, suc}
use mathlib.Core.Path.{◌≡◌, refl, sym, ap, ◌∙◌}
use mathlib.Core.List.{List, [], ◌∷◌, ◌++◌, map, append_assoc, Memᴰ}
use Rattle.lists.specs.Lists.{Each}
use Rattle.lists.proofs.Laws.{Each-at}
use Rattle.lists.proofs.Joins.{Each-each, Each-mapped, EachPair-across}
use Rattle.board.specs.declared.Net.{Net}
use Rattle.board.specs.Job.{Job}
use Rattle.board.specs.Placement.{Placement}
use Rattle.board.specs.Accepted.{AcceptedJob}
use Rattle.board.proofs.SameNumber.{same_number}
use Rattle.lists.proofs.Places.{same_key}
use Rattle.layout.specs.Tree.{Wire, DrawnTrack}
use Rattle.layout.specs.Drawing.{wire_of}
use Rattle.sound.specs.Wires.{wire_numbers, track_numbers, line_numbers}
use Rattle.sound.specs.Sound.{SoundPlacement, SoundTrack, SoundTracks, Sound}

module _ (job : Job) (a : AcceptedJob job) (m : Net) (i : Memᴰ m job.nets) where
  -- the net of wire w has no pin in the row of m's left pin
  abbrev RunFree : Wire → Type 0
  RunFree w = (n : Net) → Memᴰ n job.nets → n.number ≡ w.number → (n.right.0 ≡ m.left.0 → ⊥) × (n.left.0 ≡ m.left.0 → ⊥)

  module _ (earlier : List ℕ) (t : ℕ) (tr : DrawnTrack) (s : SoundTrack job earlier t tr) (out : Memᴰ m.number (earlier ++ wire_numbers tr.wires) → ⊥) where
    -- m has no wire on the track
    other_net : (p : Placement) → Memᴰ p s.places → m.number ≡ p.net.number → ⊥
    unfolding wire_of
    other_net p j e =
        let here : Memᴰ p.net.number (wire_numbers (map (wire_of job.board t) s.places)) = mathlib.Core.List.Memᴰ.map (λ (w : Wire). w.number) (mathlib.Core.List.Memᴰ.map (wire_of job.board t) j) in
        out (mathlib.Core.List.Memᴰ.append_right earlier (rw s.drawn (mathlib.Core.List.Memᴰ.cast e here)))

    place_free : (p : Placement) → Memᴰ p s.places → RunFree (wire_of job.board t p)
    unfolding wire_of
    place_free p j n k e =
        let q = Each-at (SoundPlacement job earlier t) s.places p s.placed j in
        let same : n ≡ p.net = same_number job.nets a.numbers_rise n p.net k q.of_job e in (
          λ right. out (mathlib.Core.List.Memᴰ.append_left (wire_numbers tr.wires) (q.ready m i (record { another = other_net p j; meets = sym right ∙ ap (λ (x : Net). x.right.0) same }))),
          λ left. other_net p j (sym (ap (λ (x : Net). x.number) (same_key (λ (x : Net). x.left.0) job.nets a.lefts_differ n m k i left)) ∙ e),
        )

    track_free : Each RunFree tr.wires
    track_free = rw s.drawn (Each-mapped (wire_of job.board t) RunFree s.places (Each-each s.places place_free))

  tracks_free : (earlier : List ℕ) (t : ℕ) (trs : List DrawnTrack) → SoundTracks job earlier t trs → (Memᴰ m.number (earlier ++ track_numbers trs) → ⊥) →
      Each (λ tr. Each RunFree tr.wires) trs
  unfolding track_numbers
  tracks_free earlier t [] s out = tt
  tracks_free earlier t (tr ∷ trs) s out =
      let moved = append_assoc earlier (wire_numbers tr.wires) (track_numbers trs) in
      let later : Memᴰ m.number ((earlier ++ wire_numbers tr.wires) ++ track_numbers trs) → ⊥ = rw moved out in (
        track_free earlier t tr s.0 (λ h. later (mathlib.Core.List.Memᴰ.append_left (track_numbers trs) h)),
        tracks_free (earlier ++ wire_numbers tr.wires) (suc t) trs s.1 later,
      )

  pub loose_run_free : (text : List ℕ) (s : Sound job text) → Memᴰ m.number s.layout.loose → Each (λ tr. Each RunFree tr.wires) s.layout.tracks
  unfolding line_numbers
  loose_run_free text s j =
      let apart = EachPair-across (λ k l. k ≡ l → ⊥) (track_numbers s.layout.tracks) s.layout.loose s.once in
      tracks_free [] 1 s.layout.tracks s.tracks
      (λ h. Each-at (λ l. m.number ≡ l → ⊥) s.layout.loose m.number (Each-at (λ k. Each (λ l. k ≡ l → ⊥) s.layout.loose) (track_numbers s.layout.tracks) m.number apart h) j refl)
