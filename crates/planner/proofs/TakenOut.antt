-- What is promised of a plan by value, taken out clause by clause: none of them asks less than its words say. Assumes nothing.
use Prim.Native.Nat.{ℕ, ◌+◌, ◌<◌}
use mathlib.Core.Path.{◌≡◌}
use lib.ListN.{get_or}
use Rattle.lists.specs.Lists.{Each}
use Rattle.board.specs.Length.{shortest}
use Rattle.board.specs.Job.{Job}
use Rattle.board.specs.Weight.{weight_sum}
use Rattle.board.specs.Unbeaten.{empty_track, Unbeaten}
use Rattle.planning.specs.Loose.{sum_of_tracks}
use Rattle.planner.specs.declared.JobPlan.{JobPlan}
use Rattle.planner.specs.Chosen.{tracks_of, loose_nets, BestPlan}

module _ (job : Job) (plan : JobPlan) (b : BestPlan job plan) where
  -- no track is beaten
  pub unbeaten_is : Unbeaten job (tracks_of job plan)
  unbeaten_is = b.unbeaten

  -- each wire is at its net's shortest length
  pub shortest_is : (i : ℕ) → i < job.board.tracks →
      Each (λ p. p.shape ≡ shortest job.board p.net) (get_or (tracks_of job plan) i empty_track).wires
  shortest_is = b.at_shortest

  -- the sums balance
  pub balance_is : weight_sum job.nets ≡ sum_of_tracks (tracks_of job plan) + weight_sum (loose_nets job plan)
  balance_is = b.balance
