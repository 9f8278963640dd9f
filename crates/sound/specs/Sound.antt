-- Document 01, "A sound layout". Nothing here looks at how a track is chosen, nor at how a check goes through a text.
use Rattle.std.specs.Prelude.{ℕ, suc, ◌<◌, ◌≡◌, length}
use mathlib.Core.List.{List, [], ◌∷◌, ◌++◌, map, Memᴰ}
use Rattle.lists.specs.Lists.{Each, EachPair}
use Rattle.board.specs.declared.Net.{Net}
use Rattle.board.specs.Job.{Job}
use Rattle.board.specs.Placement.{Placement, Legal, Clear}
use Rattle.board.specs.Precedence.{Precedes}
use Rattle.board.specs.Rival.{Apart}
use Rattle.layout.specs.Tree.{DrawnTrack, Layout}
use Rattle.layout.specs.LayoutText.{layout_text}
use Rattle.layout.specs.Drawing.{wire_of}
use Rattle.sound.specs.Wires.{wire_numbers, line_numbers, wires_sum}

-- p is a placement of a net of the job at an allowed length, clear of blocks on track t, and every net that precedes its net
-- stands on an earlier track
pub record SoundPlacement (job : Job) (earlier : List ℕ) (t : ℕ) (p : Placement) : Type 0 where
  pub of_job : Memᴰ p.net job.nets
  pub legal : Legal job.board p
  pub clear : Clear job t p
  pub ready : (m : Net) → Memᴰ m job.nets → Precedes m p.net → Memᴰ m.number earlier

-- the line of track t and the wires under it keep the rules, where the nets with the numbers `earlier` stand on earlier tracks
pub record SoundTrack (job : Job) (earlier : List ℕ) (t : ℕ) (tr : DrawnTrack) : Type 0 where
  pub track_is : tr.track ≡ t
  pub places : List Placement
  pub drawn : tr.wires ≡ map (wire_of job.board t) places
  pub placed : Each (SoundPlacement job earlier t) places
  pub rising : EachPair (λ p q. p.top < q.top) places
  pub apart : EachPair Apart places
  pub sum_is : wires_sum job tr.wires ≡ tr.sum

-- the tracks from track t on are sound, where the nets with the numbers `earlier` stand on the tracks before them
abbrev pub SoundTracks : Job → List ℕ → ℕ → List DrawnTrack → Type 0
SoundTracks job earlier t [] = Unit {0}
SoundTracks job earlier t (tr ∷ trs) =
    SoundTrack job earlier t tr × SoundTracks job (earlier ++ wire_numbers tr.wires) (suc t) trs

-- the text has the form of a layout with tracks 1 to K in order, and keeps every rule
pub record Sound (job : Job) (text : List ℕ) : Type 0 where
  pub layout : Layout
  pub rendered : text ≡ layout_text layout
  pub count : length layout.tracks ≡ job.board.tracks
  pub tracks : SoundTracks job [] 1 layout.tracks
  pub loose_rise : EachPair (λ j k. j < k) layout.loose
  -- each net of the job has a line
  pub each : (n : Net) → Memᴰ n job.nets → Memᴰ n.number (line_numbers layout)
  -- no line has another number
  pub no_other : (k : ℕ) → Memᴰ k (line_numbers layout) → Memᴰ k (map (λ n. n.number) job.nets)
  -- no two lines have the same number
  pub once : EachPair (λ j k. j ≡ k → ⊥) (line_numbers layout)
