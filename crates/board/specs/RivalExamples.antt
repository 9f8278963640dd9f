-- Lists of placements on the board of document 01's worked example, and on the same board with wider bounds. proofs/RivalFacts.antt says which
-- of them are rival sequences.
use Rattle.std.specs.Prelude.{List, [], ◌∷◌}
use Rattle.board.specs.declared.Net.{Net}
use Rattle.board.specs.declared.Shape.TheVariants.{Plain, Stretched}
use Rattle.board.specs.Job.{Job}
use Rattle.board.specs.Placement.{Placement, placement_at}
use Rattle.board.specs.WorkedBoard.{worked_board, worked_block, net1, net2, net3, net4, net5}

-- net 1 of the worked job with a max of 13: it may be stretched
abbrev pub wide1 : Net
wide1 = record { number = 1; left = record { 0 = 2 }; right = record { 0 = 4 }; min = 7; max = 13; weight = 3 }

-- net 2 of the worked job with a min of 10, so that min − D is odd
abbrev pub odd2 : Net
odd2 = record { number = 2; left = record { 0 = 6 }; right = record { 0 = 8 }; min = 10; max = 12; weight = 4 }

-- net 3 of the worked job with a max of 10
abbrev pub wide3 : Net
wide3 = record { number = 3; left = record { 0 = 9 }; right = record { 0 = 10 }; min = 6; max = 10; weight = 2 }

-- the worked job with these three nets in place of its own
abbrev pub wide_job : Job
wide_job = record { board = worked_board; nets = wide1 ∷ odd2 ∷ wide3 ∷ net4 ∷ net5 ∷ []; blocks = worked_block ∷ [] }

-- the wires that route writes on track 1: (track 1 9)
abbrev pub track1 : List Placement
track1 = placement_at net1 Plain 2 ∷ placement_at net2 (Stretched 1) 5 ∷ placement_at net3 Plain 9 ∷ []

-- the wires that route writes on track 2: (track 2 2)
abbrev pub track2 : List Placement
track2 = placement_at net4 Plain 2 ∷ []

-- the wires of track 1 with net 3 at its other allowed length, 8
abbrev pub longer3 : List Placement
longer3 = placement_at net1 Plain 2 ∷ placement_at net2 (Stretched 1) 5 ∷ placement_at net3 (Stretched 0) 9 ∷ []

-- nets 1 and 2, net 2 at its other top row, so that net 3 has no room: not what route writes
abbrev pub other_top : List Placement
other_top = placement_at net1 Plain 2 ∷ placement_at net2 (Stretched 1) 6 ∷ []

-- three nets of the job with wider bounds on all of rows 1 to H, of which they need 3 + 4 + 2
abbrev pub all_rows : List Placement
all_rows = placement_at wide1 (Stretched 1) 1 ∷ placement_at odd2 (Stretched 1) 5 ∷ placement_at wide3 (Stretched 0) 9 ∷ []

-- a net that is not in the worked job
abbrev pub net6 : Net
net6 = record { number = 6; left = record { 0 = 5 }; right = record { 0 = 7 }; min = 7; max = 7; weight = 3 }
