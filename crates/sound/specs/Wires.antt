-- Document 01, "A sound layout": rival sequences and sums over drawn wires.
use Rattle.std.specs.Prelude.{ℕ, ◌+◌, ◌≡◌, List, [], ◌∷◌, ◌++◌, map, Option, None, Some}
use Rattle.board.specs.declared.Net.{Net}
use Rattle.board.specs.Weight.{weight}
use Rattle.board.specs.Job.{Job}
use Rattle.board.specs.Placement.{Placement}
use Rattle.board.specs.Rival.{Rival}
use Rattle.layout.specs.Tree.{Wire, DrawnTrack, Layout}
use Rattle.layout.specs.Drawing.{wire_of}
use Rattle.layout.specs.Drawn.{net_numbered}

-- the wires ws are a rival sequence for track t, where the nets with the numbers `earlier` stand on earlier tracks
pub record RivalWires (job : Job) (earlier : List ℕ) (t : ℕ) (ws : List Wire) : Type 0 where
  pub places : List Placement
  pub rival : Rival job earlier t places
  pub drawn : ws ≡ map (wire_of job.board t) places

-- the weight of a net, 0 if there is none
unfoldable pub weight_by : Option Net → ℕ
weight_by None = 0
weight_by (Some n) = weight n

-- the weight of the net with number k, 0 if no net has it
unfoldable pub weight_of : Job → ℕ → ℕ
weight_of job k = weight_by (net_numbered job k)

-- f added up over numbers
unfoldable pub sum_over : (ℕ → ℕ) → List ℕ → ℕ
sum_over f [] = 0
sum_over f (k ∷ ks) = f k + sum_over f ks

-- the numbers of the nets of wires
abbrev pub wire_numbers : List Wire → List ℕ
wire_numbers ws = map (λ w. w.number) ws

-- the numbers of the nets of the wires of tracks
unfoldable pub track_numbers : List DrawnTrack → List ℕ
track_numbers [] = []
track_numbers (tr ∷ trs) = wire_numbers tr.wires ++ track_numbers trs

-- the numbers of the nets of all lines, wires and loose ones
unfoldable pub line_numbers : Layout → List ℕ
line_numbers l = track_numbers l.tracks ++ l.loose

-- the sum of wires: each counts by its number
unfoldable pub wires_sum : Job → List Wire → ℕ
wires_sum job ws = sum_over (weight_of job) (wire_numbers ws)

-- the sum of the numbers of the track lines
unfoldable pub printed_sum : List DrawnTrack → ℕ
printed_sum [] = 0
printed_sum (tr ∷ trs) = tr.sum + printed_sum trs
