-- Document 01, "Drawing": the tracks of a plan, drawn.
use Rattle.std.specs.Prelude.{ℕ, suc, List, [], ◌∷◌, map}
use Rattle.board.specs.declared.Board.{Board}
use Rattle.board.specs.Unbeaten.{FilledTrack}
use Rattle.layout.specs.Tree.{DrawnTrack}
use Rattle.layout.specs.Drawing.{wire_of}

-- the tracks of a plan from track t on: each with its sum, and its wires as drawings of its placements
unfoldable pub drawn_tracks : Board → ℕ → List FilledTrack → List DrawnTrack
drawn_tracks board t [] = []
drawn_tracks board t (tp ∷ tps) =
    record { track = t; sum = tp.sum; wires = map (wire_of board t) tp.wires } ∷ drawn_tracks board (suc t) tps

-- what stands for a track that a layout lacks
abbrev pub no_track : DrawnTrack
no_track = record { track = 0; sum = 0; wires = [] }
