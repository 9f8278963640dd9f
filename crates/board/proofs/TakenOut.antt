-- What demand 3 says of a plan, taken out: the wires of a track have the most, and every track is asked. Assumes nothing.
use Prim.Native.Nat.{ℕ, suc, ◌≤◌, ◌<◌}
use mathlib.Core.List.{List}
use native.Mathlib.Omega.{arith}
use lib.ListN.{length, take, get_or}
use Rattle.board.specs.Job.{Job}
use Rattle.board.specs.Placement.{Placement}
use Rattle.board.specs.Rival.{Rival, rival_sum}
use Rattle.board.specs.Unbeaten.{FilledTrack, empty_track, numbers_on, Optimal, Unbeaten}

module _ (job : Job) (earlier : List ℕ) (t : ℕ) (tp : FilledTrack) (o : Optimal job earlier t tp) where
  -- no rival sequence has more than the wires of the track
  pub wires_most : (ps : List Placement) → Rival job earlier t ps → rival_sum ps ≤ rival_sum tp.wires
  wires_most ps r = omega (arith, o.most ps r, o.sum_is)

  -- they are a rival sequence
  pub wires_rival : Rival job earlier t tp.wires
  wires_rival = o.rival

-- each track of the plan is optimal, the last one too
pub each_optimal : (job : Job) (plan : List FilledTrack) → Unbeaten job plan → (i : ℕ) → i < length plan →
    Optimal job (numbers_on (take i plan)) (suc i) (get_or plan i empty_track)
each_optimal job plan u i h = u.each i (omega (arith, u.count, h))

-- a plan has a track for each of the board
pub each_track : (job : Job) (plan : List FilledTrack) → Unbeaten job plan → job.board.tracks ≤ length plan
each_track job plan u = omega (arith, u.count)
