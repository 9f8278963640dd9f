-- The text that route writes, byte for byte: document 01's for its worked board, the second router's for the board on which a weight turns the
-- choice over. Assumes nothing.
use Prim.Native.Nat.{ℕ}
use mathlib.Core.Path.{◌≡◌, refl}
use mathlib.Core.List.{List}
use Rattle.lists.specs.Lists.{any_of, all_of, first_of}
use Rattle.board.specs.Length.{width, upper, lower, span, plain_length, shortest, needed}
use Rattle.board.specs.Weight.{weight}
use Rattle.board.specs.Job.{Job, closes_row, blocked}
use Rattle.board.specs.Placement.{covered, first_top, last_top}
use Rattle.board.specs.Unbeaten.{numbers_on}
use Rattle.board.specs.Tests.{clear_rows, is_on, is_before, is_ready, is_eligible}
use Rattle.board.specs.WorkedBoard.{worked_job}
use Rattle.board.specs.WeightedBoard.{weighted_job}
use Rattle.packing.specs.Fits.{fits_at}
use Rattle.packing.specs.Best.{sum_with, best_at, table, best_last, best}
use Rattle.packing.specs.Walk.{reaches, choice, walk, walk_from, wires_of}
use Rattle.planning.specs.Plan.{filled_track, plan_from, plan_of}
use Rattle.planning.specs.Loose.{without, loose_of}
use Rattle.text.specs.Bytes.{bytes}
use Rattle.text.specs.Digits.{digits_in, digits}
use Rattle.layout.specs.LayoutText.{points_then, line_text, lines_text, wires_then, tracks_then, loose_then, layout_lines, layout_text}
use Rattle.routing.specs.DrawnTracks.{drawn_tracks}
use Rattle.layout.specs.Drawing.{via_column, wire_column, same_point, distinct_from, near_row, far_row, corners, points_on, wire_of}
use Rattle.routing.specs.Route.{route_layout, route_text}

-- the text of a job. To unfold this is to unfold all that it computes with
unfoldable pub computed_text : Job → List ℕ
unfolding route_text route_layout drawn_tracks layout_text layout_lines lines_text tracks_then wires_then loose_then line_text points_then digits digits_in wire_of points_on corners distinct_from same_point near_row far_row via_column wire_column loose_of without numbers_on plan_of plan_from filled_track wires_of walk_from walk choice reaches best best_last table best_at fits_at sum_with first_top last_top covered is_eligible is_ready is_before is_on clear_rows blocked closes_row weight needed shortest plain_length span upper lower width any_of all_of first_of
computed_text job = route_text job

pub worked_text_lem : route_text worked_job ≡ bytes
    "(layout\n (track 1 9)\n (wire 1 (0 2) (1 2) (1 4) (5 4))\n (wire 2 (0 6) (1 6) (1 5) (2 5) (2 8) (1 8) (5 8))\n (wire 3 (0 9) (1 9) (1 10) (5 10))\n (track 2 2)\n (wire 4 (0 3) (3 3) (3 2) (5 2))\n (loose 5)\n)\n"
unfolding computed_text
worked_text_lem = refl

-- net 1 has the most rows
pub unweighted_text : route_text (weighted_job 2) ≡ bytes "(layout\n (track 1 6)\n (wire 1 (0 1) (1 1) (1 6) (3 6))\n (loose 2)\n (loose 3)\n)\n"
unfolding computed_text
unweighted_text = refl

-- with a weight of 7 for net 2, nets 2 and 3 are the heaviest
pub weighted_text : route_text (weighted_job 7) ≡ bytes
    "(layout\n (track 1 9)\n (wire 2 (0 2) (1 2) (1 3) (3 3))\n (wire 3 (0 4) (1 4) (1 5) (3 5))\n (loose 1)\n)\n"
unfolding computed_text
weighted_text = refl
