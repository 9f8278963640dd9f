-- Demand 3 on a plan: on every track no rival sequence has a larger sum, with the earlier tracks held.
use Rattle.std.specs.Prelude.{ℕ, suc, ◌≤◌, ◌<◌, ◌≡◌, List, [], ◌∷◌, ◌++◌, map, length, get_or, take}
use Rattle.board.specs.Job.{Job}
use Rattle.board.specs.Placement.{Placement}
use Rattle.board.specs.Rival.{Rival, rival_sum}

-- a filled track: its sum and its wires
pub record FilledTrack : Type 0 where
  pub sum : ℕ
  pub wires : List Placement

-- a track without wires, of sum 0
abbrev pub empty_track : FilledTrack
empty_track = record { sum = 0; wires = [] }

-- the numbers of the nets of a track's wires
abbrev pub numbers : List Placement → List ℕ
numbers ps = map (λ p. p.net.number) ps

-- the numbers of the nets of the wires of several tracks
unfoldable pub numbers_on : List FilledTrack → List ℕ
numbers_on [] = []
numbers_on (tp ∷ tps) = numbers tp.wires ++ numbers_on tps

-- on track t no rival sequence has a larger sum than that of tp; the wires of tp are a rival sequence, and their sum is that of tp
pub record Optimal (job : Job) (earlier : List ℕ) (t : ℕ) (tp : FilledTrack) : Type 0 where
  pub most : (ps : List Placement) → Rival job earlier t ps → rival_sum ps ≤ tp.sum
  pub rival : Rival job earlier t tp.wires
  pub sum_is : rival_sum tp.wires ≡ tp.sum

-- a plan has the job's tracks 1 to K, track i + 1 at place i, and each is optimal with the nets of the tracks before it held
pub record Unbeaten (job : Job) (plan : List FilledTrack) : Type 0 where
  pub count : length plan ≡ job.board.tracks
  pub each : (i : ℕ) → i < job.board.tracks → Optimal job (numbers_on (take i plan)) (suc i) (get_or plan i empty_track)
