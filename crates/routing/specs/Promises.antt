-- Demands 2 and 3 on the bytes of a layout: what route promises of the text that it writes. Nothing here looks at how a track is chosen:
-- `plan` stands for any list of filled tracks. proofs/WorthlessTexts.antt has texts that each clause shuts out.
use Rattle.std.specs.Prelude.{ℕ, suc, ◌≤◌, ◌<◌, ◌≡◌, length, get_or, take, Some}
use mathlib.Core.List.{List, Memᴰ}
use Rattle.lists.specs.Lists.{Each}
use Rattle.board.specs.declared.Shape.{Shape}
use Rattle.board.specs.Length.{length_of, Allowed}
use Rattle.board.specs.Job.{Job}
use Rattle.board.specs.Placement.{Placement, Legal}
use Rattle.board.specs.Unbeaten.{FilledTrack}
use Rattle.layout.specs.Tree.{Wire, DrawnTrack, Layout}
use Rattle.layout.specs.LayoutText.{layout_text}
use Rattle.layout.specs.ReadBack.{read_layout}
use Rattle.layout.specs.Drawing.{wire_of, path_length}
use Rattle.routing.specs.DrawnTracks.{drawn_tracks, no_track}
use Rattle.sound.specs.Wires.{RivalWires, wires_sum, track_numbers}

-- Demand 2

-- the wire draws a legal placement of a net of the job on track t; its segments add up to that placement's length, which is allowed, and
-- no allowed length of the net is smaller
pub record ShortestWire (job : Job) (t : ℕ) (w : Wire) : Type 0 where
  pub place : Placement
  pub of_job : Memᴰ place.net job.nets
  pub legal : Legal job.board place
  pub drawn : w ≡ wire_of job.board t place
  pub adds_up : path_length w.points ≡ length_of job.board place.net place.shape
  pub least : (s : Shape) → Allowed job.board place.net s → path_length w.points ≤ length_of job.board place.net s

-- the text is the rendering of a layout, and reading it back yields that layout; its tracks have exactly the wires planned; each wire
-- draws its net at its shortest allowed length; the text has at most 64,000 bytes
pub record ShortestText (job : Job) (plan : List FilledTrack) (text : List ℕ) : Type 0 where
  pub layout : Layout
  pub rendered : text ≡ layout_text layout
  pub read : read_layout text ≡ Some layout
  pub count : length layout.tracks ≡ job.board.tracks
  pub planned : layout.tracks ≡ drawn_tracks job.board 1 plan
  pub wires_shortest : (i : ℕ) → i < job.board.tracks → Each (ShortestWire job (suc i)) (get_or layout.tracks i no_track).wires
  pub bytes_most : length text ≤ 64000

-- Demand 3

-- the line is that of track t; no rival sequence of wires has a larger sum than the one that it prints; its wires are a rival sequence, and
-- their sum is that one
pub record OptimalTrack (job : Job) (earlier : List ℕ) (t : ℕ) (tr : DrawnTrack) : Type 0 where
  pub track_is : tr.track ≡ t
  pub most : (ws : List Wire) → RivalWires job earlier t ws → wires_sum job ws ≤ tr.sum
  pub rival : RivalWires job earlier t tr.wires
  pub sum_is : wires_sum job tr.wires ≡ tr.sum

-- the text is the rendering of a layout, which reading it gives; it has tracks 1 to K, and each is optimal where the wires of earlier tracks
-- stand as written
pub record UnbeatenText (job : Job) (text : List ℕ) : Type 0 where
  pub layout : Layout
  pub rendered : text ≡ layout_text layout
  pub read : read_layout text ≡ Some layout
  pub count : length layout.tracks ≡ job.board.tracks
  pub each : (i : ℕ) → i < job.board.tracks → OptimalTrack job (track_numbers (take i layout.tracks)) (suc i) (get_or layout.tracks i no_track)
