-- Order 2: a board on which a weight turns the choice over: `(rows 6)`, `(tracks 1)`, `(net 1 1 6 0 4095)`, `(net 2 2 3 0 4095 w)`,
-- `(net 3 4 5 0 4095)`. Net 1 covers all rows, nets 2 and 3 stand within them. A weight w of 2 may be left out; with one of 7 nets 2 and 3 are
-- heavier than net 1.
use Rattle.std.specs.Prelude.{ℕ, List, [], ◌∷◌}
use Rattle.board.specs.declared.Net.{Net}
use Rattle.board.specs.declared.Shape.TheVariants.{Plain}
use Rattle.board.specs.Job.{Job}
use Rattle.board.specs.Placement.{Placement, placement_at}

abbrev pub tall_net : Net
tall_net = record { number = 1; left = record { 0 = 1 }; right = record { 0 = 6 }; min = 0; max = 4095; weight = 6 }

-- net 2 with the weight w
abbrev pub clock_net : ℕ → Net
clock_net w = record { number = 2; left = record { 0 = 2 }; right = record { 0 = 3 }; min = 0; max = 4095; weight = w }

abbrev pub data_net : Net
data_net = record { number = 3; left = record { 0 = 4 }; right = record { 0 = 5 }; min = 0; max = 4095; weight = 2 }

abbrev pub weighted_job : ℕ → Job
weighted_job w = record { board = record { rows = 6; tracks = 1 }; nets = tall_net ∷ clock_net w ∷ data_net ∷ []; blocks = [] }

-- the two rival sequences that fill the track
abbrev pub tall_alone : List Placement
tall_alone = placement_at tall_net Plain 1 ∷ []

abbrev pub two_short : ℕ → List Placement
two_short w = placement_at (clock_net w) Plain 2 ∷ placement_at data_net Plain 4 ∷ []
