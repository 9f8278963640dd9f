-- A job whose one net may be drawn far longer than its shortest: (rows 10), (tracks 1), (net 1 4 6 5 20).
use Rattle.std.specs.Prelude.{[], ◌∷◌}
use Rattle.board.specs.declared.Net.{Net}
use Rattle.board.specs.Job.{Job}

-- (net 1 4 6 5 20): with one track n = 3 at its shortest, and lengths to 19 are allowed
abbrev pub long_net : Net
long_net = record { number = 1; left = record { 0 = 4 }; right = record { 0 = 6 }; min = 5; max = 20; weight = 3 }

-- the job of that net alone
abbrev pub long_job : Job
long_job = record { board = record { rows = 10; tracks = 1 }; nets = long_net ∷ []; blocks = [] }
