-- The worked example of document 01, "Drawing", as a value: its board, nets, block and job.
use Rattle.std.specs.Prelude.{ℕ, [], ◌∷◌}
use Rattle.board.specs.declared.Board.{Board}
use Rattle.board.specs.declared.Net.{Net}
use Rattle.board.specs.declared.Block.{Block}
use Rattle.board.specs.Job.{Job}

-- (rows 10) (tracks 2)
abbrev pub worked_board : Board
worked_board = record { rows = 10; tracks = 2 }

-- (net 1 2 4 7 7)
abbrev pub net1 : Net
net1 = record { number = 1; left = record { 0 = 2 }; right = record { 0 = 4 }; min = 7; max = 7; weight = 3 }

-- (net 1 2 4 7 7 w): net 1, which needs 3 rows, with a weight
abbrev pub net1_weighing : ℕ → Net
net1_weighing w = record { number = 1; left = record { 0 = 2 }; right = record { 0 = 4 }; min = 7; max = 7; weight = w }

-- (net 2 6 8 11 12)
abbrev pub net2 : Net
net2 = record { number = 2; left = record { 0 = 6 }; right = record { 0 = 8 }; min = 11; max = 12; weight = 4 }

-- (net 3 9 10 6 8)
abbrev pub net3 : Net
net3 = record { number = 3; left = record { 0 = 9 }; right = record { 0 = 10 }; min = 6; max = 8; weight = 2 }

-- (net 4 3 2 6 6)
abbrev pub net4 : Net
net4 = record { number = 4; left = record { 0 = 3 }; right = record { 0 = 2 }; min = 6; max = 6; weight = 2 }

-- (net 5 5 6 6 6)
abbrev pub net5 : Net
net5 = record { number = 5; left = record { 0 = 5 }; right = record { 0 = 6 }; min = 6; max = 6; weight = 2 }

-- (block 2 6 6)
abbrev pub worked_block : Block
worked_block = record { track = record { 0 = 2 }; first = record { 0 = 6 }; last = record { 0 = 6 } }

-- the whole job
abbrev pub worked_job : Job
worked_job = record {
  board = worked_board;
  nets = net1 ∷ net2 ∷ net3 ∷ net4 ∷ net5 ∷ [];
  blocks = worked_block ∷ [];
}
