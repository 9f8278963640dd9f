-- The filled tracks that a plan by value stands for, as drawing lays them out, and what is promised of them.
use Rattle.std.specs.Prelude.{ℕ, zero, suc, ◌+◌, ◌-◌, ◌<◌, ◌≡◌, cond, ◌&&◌, List, [], ◌∷◌, ◌++◌, eqb, get_or, Option, None, Some}
use Rattle.std.specs.Option.{is_none}
use Rattle.lists.specs.Lists.{Each}
use Rattle.board.specs.declared.Net.{Net}
use Rattle.board.specs.Length.{shortest}
use Rattle.board.specs.Job.{Job}
use Rattle.board.specs.Placement.{Placement}
use Rattle.board.specs.Weight.{weight_sum}
use Rattle.board.specs.Unbeaten.{FilledTrack, empty_track, Unbeaten}
use Rattle.planning.specs.Loose.{sum_of_tracks}
use Rattle.board.specs.declared.Wired.{Wired}
use Rattle.planner.specs.declared.JobPlan.{JobPlan}

-- the placement of a net that stands on track t with its top at a row, and none otherwise
abbrev pub stands_at : ℕ → ℕ → Net → Option Wired → List Placement
stands_at t row n None = []
stands_at t row n (Some w) = cond (eqb w.track.0 t && eqb w.top.0 row) (record { net = n; shape = w.shape; top = row } ∷ []) []

-- the placements on track t with the top at a row, of nets and their plans
unfoldable pub row_of : ℕ → ℕ → List Net → List (Option Wired) → List Placement
row_of t row [] ps = []
row_of t row (n ∷ ns) [] = []
row_of t row (n ∷ ns) (p ∷ ps) = stands_at t row n p ++ row_of t row ns ps

-- the placements on track t with the top in the last k rows, by rising row
unfoldable pub last_rows : Job → JobPlan → ℕ → ℕ → List Placement
last_rows job plan t zero = []
last_rows job plan t (suc k) = row_of t (job.board.rows - k) job.nets plan.nets ++ last_rows job plan t k

-- k tracks from track t on: the sum and the wires of each
unfoldable pub tracks_from : Job → JobPlan → ℕ → ℕ → List FilledTrack
tracks_from job plan zero t = []
tracks_from job plan (suc k) t =
    record { sum = get_or plan.sums (t - 1) 0; wires = last_rows job plan t job.board.rows } ∷ tracks_from job plan k (suc t)

-- tracks 1 to K
unfoldable pub tracks_of : Job → JobPlan → List FilledTrack
tracks_of job plan = tracks_from job plan job.board.tracks 1

-- of nets and their plans, those that stand on no track
unfoldable pub loose_from : List Net → List (Option Wired) → List Net
loose_from [] ps = []
loose_from (n ∷ ns) [] = []
loose_from (n ∷ ns) (p ∷ ps) = let more = loose_from ns ps in cond (is_none p) (n ∷ more) more

-- the loose nets of a plan by value
unfoldable pub loose_nets : Job → JobPlan → List Net
loose_nets job plan = loose_from job.nets plan.nets

-- a plan by value of which no track is beaten, with the wires of the earlier tracks held: no rival sequence has a larger sum, the wires
-- are a rival sequence and have that sum; each wire is at its net's shortest length; all sums and the weights of the loose nets are
-- the weights of the nets of the job
pub record BestPlan (job : Job) (plan : JobPlan) : Type 0 where
  pub unbeaten : Unbeaten job (tracks_of job plan)
  pub at_shortest : (i : ℕ) → i < job.board.tracks → Each (λ p. p.shape ≡ shortest job.board p.net) (get_or (tracks_of job plan) i empty_track).wires
  pub balance : weight_sum job.nets ≡ sum_of_tracks (tracks_of job plan) + weight_sum (loose_nets job plan)
