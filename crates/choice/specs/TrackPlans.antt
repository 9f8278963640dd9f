-- The plan of a track by value: best(1), and for each row the index of the net chosen there.
use Rattle.std.specs.Prelude.{ℕ, zero, suc, ◌-◌, List, [], ◌∷◌, ◌++◌, eqb, replicate, Option, None, Some}
use Rattle.board.specs.declared.Net.{Net}
use Rattle.board.specs.Job.{Job}
use Rattle.std.specs.List.{position_from}
use Rattle.packing.specs.Best.{best}
use Rattle.packing.specs.Walk.{choice_at}
use Rattle.choice.specs.declared.TrackPlan.{TrackPlan}

-- the index of a chosen net, by its number; None where none is chosen
unfoldable pub index_of : Job → Option Net → Option ℕ
index_of job None = None
index_of job (Some n) = position_from (λ m. eqb m.number n.number) 0 job.nets

-- the choices of the last k rows, row H − k + 1 first
unfoldable pub choices_of : Job → List ℕ → ℕ → ℕ → List (Option ℕ)
choices_of job earlier t zero = []
choices_of job earlier t (suc k) = index_of job (choice_at job earlier t (job.board.rows - k)) ∷ choices_of job earlier t k

-- the plan of track t, where `earlier` has the numbers of the nets on earlier tracks
unfoldable pub track_plan_of : Job → List ℕ → ℕ → TrackPlan
track_plan_of job earlier t =
    record {
      choice = choices_of job earlier t job.board.rows ++ replicate (1024 - job.board.rows) None;
      sum = best job earlier t 1;
    }
