-- Document 01, "Choosing a track": tracks are filled in order 1 to K.
use Rattle.std.specs.Prelude.{ℕ, zero, suc, List, [], ◌∷◌, ◌++◌}
use Rattle.board.specs.Job.{Job}
use Rattle.board.specs.Unbeaten.{FilledTrack, numbers}
use Rattle.packing.specs.Best.{best}
use Rattle.packing.specs.Walk.{wires_of}

-- track t filled, where the nets with the numbers `earlier` stand on earlier tracks: best(1) and the wires of the walk
unfoldable pub filled_track : Job → List ℕ → ℕ → FilledTrack
filled_track job earlier t = record { sum = best job earlier t 1; wires = wires_of job earlier t }

-- k tracks filled from track t on, where the nets with the numbers `earlier` stand on earlier tracks
unfoldable pub plan_from : Job → ℕ → ℕ → List ℕ → List FilledTrack
plan_from job zero t earlier = []
plan_from job (suc k) t earlier =
    let track = filled_track job earlier t in track ∷ plan_from job k (suc t) (earlier ++ numbers track.wires)

-- the plan of the job: tracks 1 to K filled
unfoldable pub plan_of : Job → List FilledTrack
plan_of job = plan_from job job.board.tracks 1 []
