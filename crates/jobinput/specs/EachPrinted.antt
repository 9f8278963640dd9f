-- What is printed for several jobs.
use Rattle.std.specs.Prelude.{ℕ, List, [], ◌∷◌, ◌++◌}
use Rattle.board.specs.Job.{Job}
use Rattle.jobfile.specs.Read.{read_job}
use Rattle.printing.specs.Printed.{printed_text}

-- the text of each job, or its refusal, one behind another
unfoldable pub each_text : (Job → List ℕ) → List (List ℕ) → List ℕ
each_text text [] = []
each_text text (s ∷ ss) = printed_text text (read_job s) ++ each_text text ss
