-- Plans computed: document 01's worked board, its board of the long net, and one where a weight turns the choice over. Assumes nothing.
use Prim.Native.Nat.{ℕ}
use mathlib.Core.Path.{◌≡◌, refl, ap, ◌∙◌}
use mathlib.Core.List.{List, [], ◌∷◌}
use native.Mathlib.Omega.{arith}
use lib.ListN.{length, get_or}
use Rattle.lists.specs.Lists.{any_of, all_of, first_of}
use Rattle.board.specs.declared.Net.{Net}
use Rattle.board.specs.declared.Shape.TheVariants.{Plain, Stretched}
use Rattle.board.specs.Length.{width, upper, lower, span, plain_length, shortest, needed}
use Rattle.board.specs.Weight.{weight}
use Rattle.board.specs.Job.{Job, closes_row, blocked}
use Rattle.board.specs.Placement.{placement_at, covered, first_top, last_top}
use Rattle.board.specs.Unbeaten.{FilledTrack, empty_track, numbers_on}
use Rattle.board.specs.Tests.{clear_rows, is_on, is_before, is_ready, is_eligible}
use Rattle.board.specs.WorkedBoard.{worked_job, net1, net2, net3, net4, net5}
use Rattle.board.specs.TriedBoards.{tried_board, tried_net}
use Rattle.board.specs.RivalExamples.{other_top}
use Rattle.board.specs.WeightedBoard.{weighted_job, tall_alone, two_short}
use Rattle.packing.specs.Fits.{fits_at}
use Rattle.packing.specs.Best.{sum_with, best_at, table, best_last, best}
use Rattle.packing.specs.Walk.{reaches, choice, walk, walk_from, wires_of}
use Rattle.planning.specs.Plan.{filled_track, plan_from, plan_of}
use Rattle.planning.specs.Loose.{without, loose_of}

-- the plan of a job. To unfold this is to unfold all that it computes with
unfoldable planned : Job → List FilledTrack
unfolding plan_of plan_from filled_track wires_of walk_from walk choice reaches best best_last table best_at fits_at sum_with first_top last_top covered is_eligible is_ready is_before is_on clear_rows blocked closes_row weight needed shortest plain_length span upper lower width any_of all_of first_of
planned job = plan_of job

-- the nets that the plan of a job leaves loose, in the same way
unfoldable left : Job → List Net
unfolding loose_of without numbers_on plan_of plan_from filled_track wires_of walk_from walk choice reaches best best_last table best_at fits_at sum_with first_top last_top covered is_eligible is_ready is_before is_on clear_rows blocked closes_row weight needed shortest plain_length span upper lower width any_of all_of first_of
left job = loose_of job (plan_of job)

-- track 1: nets 1, 2 (stretched over row 5) and 3, sum 9; track 2: net 4, sum 2
pub worked_plan : plan_of worked_job ≡
    record { sum = 9; wires = placement_at net1 Plain 2 ∷ placement_at net2 (Stretched 1) 5 ∷ placement_at net3 Plain 9 ∷ [] } ∷
    record { sum = 2; wires = placement_at net4 Plain 2 ∷ [] } ∷ []
unfolding planned
worked_plan = refl

-- so the rival sequence that is not ours is not what the plan has on its track, track 1
pub other_top_not_ours : (other_top ≡ (get_or (plan_of worked_job) 0 empty_track).wires) → ⊥
other_top_not_ours h =
    let e : ◌≡◌ {A = ℕ} 2 3 = ap length (h ∙ ap (λ (plan : List FilledTrack). (get_or plan 0 empty_track).wires) worked_plan) in omega arith

-- net 5 is loose
pub worked_loose : loose_of worked_job (plan_of worked_job) ≡ net5 ∷ []
unfolding left
worked_loose = refl

-- rows 21, tracks 1, net 10 to 14 with min = max = 23: of its eight tops the walk takes the last, 10
pub long_plan : plan_of (record { board = tried_board 21; nets = tried_net 23 23 12 ∷ []; blocks = [] }) ≡
    record { sum = 12; wires = placement_at (tried_net 23 23 12) (Stretched 7) 10 ∷ [] } ∷ []
unfolding planned
long_plan = refl

-- with a weight that is the needed rows the plan has the most rows, not the most nets: net 1 alone, over rows 1 to 6
pub most_rows_plan : plan_of (weighted_job 2) ≡ record { sum = 6; wires = tall_alone } ∷ []
unfolding planned
most_rows_plan = refl

-- with a weight of 7 it is the heaviest, not the most rows: nets 2 and 3
pub heaviest_plan : plan_of (weighted_job 7) ≡ record { sum = 9; wires = two_short 7 } ∷ []
unfolding planned
heaviest_plan = refl
