-- Rival sequences over wires, and the tracks of a sound layout, taken apart. Assumes nothing.
use Prim.Native.Nat.{ℕ, suc}
use mathlib.Core.Path.{◌≡◌}
use mathlib.Core.Logic.{◌↔◌}
use mathlib.Core.List.{List, [], ◌∷◌, ◌++◌, map}
use Rattle.board.specs.Job.{Job}
use Rattle.board.specs.Placement.{Placement}
use Rattle.board.specs.Rival.{Rival}
use Rattle.layout.specs.Tree.{Wire, DrawnTrack}
use Rattle.layout.specs.Drawing.{wire_of}
use Rattle.sound.specs.Wires.{RivalWires, wire_numbers}
use Rattle.sound.specs.Sound.{SoundTrack, SoundTracks}

-- wires are a rival sequence exactly where they are the drawings, on the track, of a rival sequence of placements, of any lengths
pub rival_wires_exact : (job : Job) (earlier : List ℕ) (t : ℕ) (ws : List Wire) →
    RivalWires job earlier t ws ↔ ((ps : List Placement) × (Rival job earlier t ps × (ws ≡ map (wire_of job.board t) ps)))
rival_wires_exact job earlier t ws =
    (λ r. (r.places, (r.rival, r.drawn)), λ h. record { places = h.0; rival = h.1.0; drawn = h.1.1 })

-- of two tracks the second has the next number, and is judged with the wires of the first held
pub two_tracks : (job : Job) (earlier : List ℕ) (t : ℕ) (a b : DrawnTrack) → SoundTracks job earlier t (a ∷ b ∷ []) →
    SoundTrack job earlier t a × SoundTrack job (earlier ++ wire_numbers a.wires) (suc t) b
two_tracks job earlier t a b s = (s.0, s.1.0)
