-- Verdicts computed: document 01's worked layout, and layouts that break one rule or two. The expected verdicts are those of the second
-- router, which was written apart from this code, from the documents and the readings in docs/DECISIONS.md. Assumes nothing.
use Prim.Native.Nat.{ℕ}
use mathlib.Core.Path.{◌≡◌, refl}
use mathlib.Core.List.{List}
use Rattle.lists.specs.Lists.{any_of, all_of, first_of}
use Rattle.board.specs.Length.{width, upper, lower, span, plain_length, shortest, needed}
use Rattle.board.specs.Weight.{weight}
use Rattle.board.specs.Job.{Job, closes_row, blocked}
use Rattle.board.specs.Tests.{is_long, is_short, is_from_one, is_over_upper, is_under_lower, is_to_last, clear_rows, is_clear, is_on, is_before, is_ready}
use Rattle.board.specs.WorkedBoard.{worked_job}
use Rattle.board.specs.WeightedBoard.{weighted_job}
use Rattle.text.specs.Bytes.{bytes, same, joined, pieces, non_empty}
use Rattle.text.specs.Digits.{digits_in, digits, value_from}
use Rattle.layout.specs.LayoutText.{points_then, line_text}
use Rattle.layout.specs.ReadBack.{words_in, points_of, line_from, rough_line, small_points, small_line, read_line}
use Rattle.layout.specs.Drawing.{via_column, wire_column, same_point, distinct_from, near_row, far_row, corners, points_on}
use Rattle.layout.specs.Drawn.{first_in, last_in, placement_from, placement_of, net_numbered}
use Rattle.sound.specs.Wires.{weight_by, weight_of}
use Rattle.drc.specs.Standing.{is_ended, read_each, lines_read, with_line}
use Rattle.drc.specs.Covers.{same_points, is_on_board, drawn_of, drawn_from, drawn_by, track_drawn, covers_of}
use Rattle.drc.specs.Judge.{none_loose, ends_track, is_in_turn, is_opening, is_in_place, is_true_sum, is_below, is_sound_place, is_sound_wire, is_unlined, is_sound_loose, keeps_rules, Verdict, sound_text, broken_at, at_text_end, judge_from, judge}
use Rattle.drc.specs.Pass.{is_next_wire, lowest_of, breach_after, closed_at, unless_breach, judged_track, or_broken, pass_in_turn, pass_line, pass_ill_formed, pass_step, pass_end, after_step, pass_from, pass_over}
use Rattle.drc.specs.LongNet.{long_job}

-- the verdict on a text. To unfold this is to unfold all that it computes with
unfoldable pub computed : Job → List ℕ → Verdict
unfolding judge judge_from at_text_end keeps_rules is_sound_loose is_unlined is_sound_wire is_sound_place is_below is_true_sum is_in_place is_opening is_in_turn ends_track none_loose covers_of track_drawn drawn_by drawn_from drawn_of is_on_board same_points with_line lines_read read_each is_ended weight_of weight_by net_numbered placement_of placement_from last_in first_in points_on corners far_row near_row distinct_from same_point wire_column via_column read_line small_line small_points rough_line line_from points_of words_in line_text points_then value_from digits digits_in non_empty pieces joined same is_ready is_before is_on is_clear clear_rows is_to_last is_under_lower is_over_upper is_from_one is_short is_long blocked closes_row weight needed shortest plain_length span upper lower width first_of all_of any_of
computed job text = judge job text

-- the same of the pass
unfoldable passed : Job → List ℕ → Verdict
unfolding computed pass_over pass_from after_step pass_end pass_step pass_ill_formed pass_line pass_in_turn or_broken judged_track unless_breach closed_at breach_after lowest_of is_next_wire
passed job text = pass_over job text

-- the text that document 01 prints
pub worked_sound : judge worked_job (bytes "(layout\n (track 1 9)\n (wire 1 (0 2) (1 2) (1 4) (5 4))\n (wire 2 (0 6) (1 6) (1 5) (2 5) (2 8) (1 8) (5 8))\n (wire 3 (0 9) (1 9) (1 10) (5 10))\n (track 2 2)\n (wire 4 (0 3) (3 3) (3 2) (5 2))\n (loose 5)\n)\n") ≡ sound_text
unfolding computed
worked_sound = refl

-- a wire at an allowed length above its shortest
pub longer_sound : judge worked_job (bytes "(layout\n (track 1 9)\n (wire 1 (0 2) (1 2) (1 4) (5 4))\n (wire 2 (0 6) (1 6) (1 5) (2 5) (2 8) (1 8) (5 8))\n (wire 3 (0 9) (1 9) (2 9) (2 10) (1 10) (5 10))\n (track 2 2)\n (wire 4 (0 3) (3 3) (3 2) (5 2))\n (loose 5)\n)\n") ≡ sound_text
unfolding computed
longer_sound = refl

-- net 2 covers rows 6 to 9, net 3 rows 9 and 10: at the later line
pub end_row_shared : judge worked_job (bytes "(layout\n (track 1 9)\n (wire 1 (0 2) (1 2) (1 4) (5 4))\n (wire 2 (0 6) (1 6) (2 6) (2 9) (1 9) (1 8) (5 8))\n (wire 3 (0 9) (1 9) (1 10) (5 10))\n (track 2 2)\n (wire 4 (0 3) (3 3) (3 2) (5 2))\n (loose 5)\n)\n") ≡ broken_at 5
unfolding computed
end_row_shared = refl

-- net 1 below net 2 in the text and above it on the board: at the later line
pub tops_fall : judge worked_job (bytes "(layout\n (track 1 9)\n (wire 2 (0 6) (1 6) (1 5) (2 5) (2 8) (1 8) (5 8))\n (wire 1 (0 2) (1 2) (1 4) (5 4))\n (wire 3 (0 9) (1 9) (1 10) (5 10))\n (track 2 2)\n (wire 4 (0 3) (3 3) (3 2) (5 2))\n (loose 5)\n)\n") ≡ broken_at 4
unfolding computed
tops_fall = refl

-- a false sum: at its track line
pub untrue_sum : judge worked_job (bytes "(layout\n (track 1 8)\n (wire 1 (0 2) (1 2) (1 4) (5 4))\n (wire 2 (0 6) (1 6) (1 5) (2 5) (2 8) (1 8) (5 8))\n (wire 3 (0 9) (1 9) (1 10) (5 10))\n (track 2 2)\n (wire 4 (0 3) (3 3) (3 2) (5 2))\n (loose 5)\n)\n") ≡ broken_at 2
unfolding computed
untrue_sum = refl

-- the sum rule adds weights: 7 + 2, and not the needed rows, 2 + 2; a lighter choice is sound too
pub sums_by_weights :
    (judge (weighted_job 7) (bytes "(layout\n (track 1 9)\n (wire 2 (0 2) (1 2) (1 3) (3 3))\n (wire 3 (0 4) (1 4) (1 5) (3 5))\n (loose 1)\n)\n") ≡ sound_text) ×
    (judge (weighted_job 7) (bytes "(layout\n (track 1 4)\n (wire 2 (0 2) (1 2) (1 3) (3 3))\n (wire 3 (0 4) (1 4) (1 5) (3 5))\n (loose 1)\n)\n") ≡ broken_at 2) ×
    (judge (weighted_job 7) (bytes "(layout\n (track 1 6)\n (wire 1 (0 1) (1 1) (1 6) (3 6))\n (loose 2)\n (loose 3)\n)\n") ≡ sound_text)
unfolding computed
sums_by_weights = (refl, refl, refl)

-- a false sum and a wire drawn on another track: the first
pub two_breaches : judge worked_job (bytes "(layout\n (track 1 8)\n (wire 1 (0 2) (1 2) (1 4) (5 4))\n (wire 2 (0 6) (1 6) (1 5) (2 5) (2 8) (1 8) (5 8))\n (wire 3 (0 9) (1 9) (1 10) (5 10))\n (track 2 2)\n (wire 4 (0 3) (1 3) (1 2) (5 2))\n (loose 5)\n)\n") ≡ broken_at 2
unfolding computed
two_breaches = refl

-- a wire without points is of the form, counts by its number, and the sum above it is still judged
pub sum_of_broken_wire : judge worked_job (bytes "(layout\n (track 1 8)\n (wire 1)\n (wire 2 (0 6) (1 6) (1 5) (2 5) (2 8) (1 8) (5 8))\n (wire 3 (0 9) (1 9) (1 10) (5 10))\n (track 2 2)\n (wire 4 (0 3) (3 3) (3 2) (5 2))\n (loose 5)\n)\n") ≡ broken_at 2
unfolding computed
sum_of_broken_wire = refl

-- net 5 has no line: at the closing line
pub net_5_missing : judge worked_job (bytes "(layout\n (track 1 9)\n (wire 1 (0 2) (1 2) (1 4) (5 4))\n (wire 2 (0 6) (1 6) (1 5) (2 5) (2 8) (1 8) (5 8))\n (wire 3 (0 9) (1 9) (1 10) (5 10))\n (track 2 2)\n (wire 4 (0 3) (3 3) (3 2) (5 2))\n)\n") ≡ broken_at 8
unfolding computed
net_5_missing = refl

-- net 1 has a wire and a loose line: at the later line
pub net_again : judge worked_job (bytes "(layout\n (track 1 9)\n (wire 1 (0 2) (1 2) (1 4) (5 4))\n (wire 2 (0 6) (1 6) (1 5) (2 5) (2 8) (1 8) (5 8))\n (wire 3 (0 9) (1 9) (1 10) (5 10))\n (track 2 2)\n (wire 4 (0 3) (3 3) (3 2) (5 2))\n (loose 1)\n (loose 5)\n)\n") ≡ broken_at 8
unfolding computed
net_again = refl

-- loose 5 before loose 4: at the later line
pub falling_loose : judge worked_job (bytes "(layout\n (track 1 6)\n (wire 2 (0 6) (1 6) (1 5) (2 5) (2 8) (1 8) (5 8))\n (wire 3 (0 9) (1 9) (1 10) (5 10))\n (track 2 0)\n (loose 5)\n (loose 4)\n (loose 1)\n)\n") ≡ broken_at 7
unfolding computed
falling_loose = refl

-- a loose line of no net: at its own line
pub no_such_net : judge worked_job (bytes "(layout\n (track 1 9)\n (wire 1 (0 2) (1 2) (1 4) (5 4))\n (wire 2 (0 6) (1 6) (1 5) (2 5) (2 8) (1 8) (5 8))\n (wire 3 (0 9) (1 9) (1 10) (5 10))\n (track 2 2)\n (wire 4 (0 3) (3 3) (3 2) (5 2))\n (loose 5)\n (loose 6)\n)\n") ≡ broken_at 9
unfolding computed
no_such_net = refl

-- net 1 precedes net 4 and stands on the same track: at the wire of net 4, though the shared row is broken at the line below
pub on_same_track : judge worked_job (bytes "(layout\n (track 1 11)\n (wire 4 (0 3) (1 3) (1 2) (5 2))\n (wire 1 (0 2) (1 2) (1 4) (5 4))\n (wire 2 (0 6) (1 6) (1 5) (2 5) (2 8) (1 8) (5 8))\n (wire 3 (0 9) (1 9) (1 10) (5 10))\n (track 2 0)\n (loose 5)\n)\n") ≡ broken_at 3
unfolding computed
on_same_track = refl

-- net 1 precedes net 4 and is loose: at the wire of net 4
pub behind_loose_net : judge worked_job (bytes "(layout\n (track 1 6)\n (wire 2 (0 6) (1 6) (1 5) (2 5) (2 8) (1 8) (5 8))\n (wire 3 (0 9) (1 9) (1 10) (5 10))\n (track 2 2)\n (wire 4 (0 3) (3 3) (3 2) (5 2))\n (loose 1)\n (loose 5)\n)\n") ≡ broken_at 6
unfolding computed
behind_loose_net = refl

-- net 2 on track 2, where row 6 is blocked
pub blocked_row : judge worked_job (bytes "(layout\n (track 1 5)\n (wire 1 (0 2) (1 2) (1 4) (5 4))\n (wire 3 (0 9) (1 9) (1 10) (5 10))\n (track 2 6)\n (wire 4 (0 3) (3 3) (3 2) (5 2))\n (wire 2 (0 6) (3 6) (3 5) (4 5) (4 8) (3 8) (5 8))\n (loose 5)\n)\n") ≡ broken_at 7
unfolding computed
blocked_row = refl

-- net 1 at length 9, allowed is 7
pub length_not_allowed : judge worked_job (bytes "(layout\n (track 1 9)\n (wire 1 (0 2) (1 2) (2 2) (2 4) (1 4) (5 4))\n (wire 2 (0 6) (1 6) (1 5) (2 5) (2 8) (1 8) (5 8))\n (wire 3 (0 9) (1 9) (1 10) (5 10))\n (track 2 2)\n (wire 4 (0 3) (3 3) (3 2) (5 2))\n (loose 5)\n)\n") ≡ broken_at 3
unfolding computed
length_not_allowed = refl

-- net 4 drawn on track 1 under track line 2
pub other_track_drawn : judge worked_job (bytes "(layout\n (track 1 9)\n (wire 1 (0 2) (1 2) (1 4) (5 4))\n (wire 2 (0 6) (1 6) (1 5) (2 5) (2 8) (1 8) (5 8))\n (wire 3 (0 9) (1 9) (1 10) (5 10))\n (track 2 2)\n (wire 4 (0 3) (1 3) (1 2) (5 2))\n (loose 5)\n)\n") ≡ broken_at 7
unfolding computed
other_track_drawn = refl

-- the last line has no byte 10: at its own line
pub without_byte_10 : judge worked_job (bytes "(layout\n (track 1 9)\n (wire 1 (0 2) (1 2) (1 4) (5 4))\n (wire 2 (0 6) (1 6) (1 5) (2 5) (2 8) (1 8) (5 8))\n (wire 3 (0 9) (1 9) (1 10) (5 10))\n (track 2 2)\n (wire 4 (0 3) (3 3) (3 2) (5 2))\n (loose 5)\n)") ≡ broken_at 9
unfolding computed
without_byte_10 = refl

-- the last line has no byte 10, so the judging closes there, and the false sum of track 2 is not judged
pub unjudged_sum : judge worked_job (bytes "(layout\n (track 1 9)\n (wire 1 (0 2) (1 2) (1 4) (5 4))\n (wire 2 (0 6) (1 6) (1 5) (2 5) (2 8) (1 8) (5 8))\n (wire 3 (0 9) (1 9) (1 10) (5 10))\n (track 2 3)\n (wire 4 (0 3) (3 3) (3 2) (5 2))\n)") ≡ broken_at 8
unfolding computed
unjudged_sum = refl

-- an empty line behind the closing line
pub behind_closing : judge worked_job (bytes "(layout\n (track 1 9)\n (wire 1 (0 2) (1 2) (1 4) (5 4))\n (wire 2 (0 6) (1 6) (1 5) (2 5) (2 8) (1 8) (5 8))\n (wire 3 (0 9) (1 9) (1 10) (5 10))\n (track 2 2)\n (wire 4 (0 3) (3 3) (3 2) (5 2))\n (loose 5)\n)\n\n") ≡ broken_at 10
unfolding computed
behind_closing = refl

-- a second closing line
pub closed_again : judge worked_job (bytes "(layout\n (track 1 9)\n (wire 1 (0 2) (1 2) (1 4) (5 4))\n (wire 2 (0 6) (1 6) (1 5) (2 5) (2 8) (1 8) (5 8))\n (wire 3 (0 9) (1 9) (1 10) (5 10))\n (track 2 2)\n (wire 4 (0 3) (3 3) (3 2) (5 2))\n (loose 5)\n)\n)\n") ≡ broken_at 10
unfolding computed
closed_again = refl

-- the line of net 5 stands behind the closing line: the net is missing
pub missing_behind_closing : judge worked_job (bytes "(layout\n (track 1 9)\n (wire 1 (0 2) (1 2) (1 4) (5 4))\n (wire 2 (0 6) (1 6) (1 5) (2 5) (2 8) (1 8) (5 8))\n (wire 3 (0 9) (1 9) (1 10) (5 10))\n (track 2 2)\n (wire 4 (0 3) (3 3) (3 2) (5 2))\n)\n (loose 5)\n") ≡ broken_at 8
unfolding computed
missing_behind_closing = refl

-- track 3 behind track 1: the judging closes there, and the false sum of track 1 is not judged
pub track_out_of_turn : judge worked_job (bytes "(layout\n (track 1 8)\n (wire 1 (0 2) (1 2) (1 4) (5 4))\n (wire 2 (0 6) (1 6) (1 5) (2 5) (2 8) (1 8) (5 8))\n (wire 3 (0 9) (1 9) (1 10) (5 10))\n (track 3 2)\n (wire 4 (0 3) (3 3) (3 2) (5 2))\n (loose 5)\n)\n") ≡ broken_at 6
unfolding computed
track_out_of_turn = refl

-- a track line behind that of track K
pub third_track : judge worked_job (bytes "(layout\n (track 1 9)\n (wire 1 (0 2) (1 2) (1 4) (5 4))\n (wire 2 (0 6) (1 6) (1 5) (2 5) (2 8) (1 8) (5 8))\n (wire 3 (0 9) (1 9) (1 10) (5 10))\n (track 2 2)\n (wire 4 (0 3) (3 3) (3 2) (5 2))\n (track 3 0)\n (loose 5)\n)\n") ≡ broken_at 8
unfolding computed
third_track = refl

-- a wire behind a loose line cannot stand there; the loose line has the sum above it judged
pub wire_behind_loose : judge worked_job (bytes "(layout\n (track 1 9)\n (wire 1 (0 2) (1 2) (1 4) (5 4))\n (wire 2 (0 6) (1 6) (1 5) (2 5) (2 8) (1 8) (5 8))\n (wire 3 (0 9) (1 9) (1 10) (5 10))\n (track 2 2)\n (loose 5)\n (wire 4 (0 3) (3 3) (3 2) (5 2))\n)\n") ≡ broken_at 6
unfolding computed
wire_behind_loose = refl

-- a wire before track 1
pub wire_before_tracks : judge worked_job (bytes "(layout\n (wire 1 (0 2) (1 2) (1 4) (5 4))\n (track 1 9)\n (wire 1 (0 2) (1 2) (1 4) (5 4))\n (wire 2 (0 6) (1 6) (1 5) (2 5) (2 8) (1 8) (5 8))\n (wire 3 (0 9) (1 9) (1 10) (5 10))\n (track 2 2)\n (wire 4 (0 3) (3 3) (3 2) (5 2))\n (loose 5)\n)\n") ≡ broken_at 2
unfolding computed
wire_before_tracks = refl

-- `(layout` again
pub opened_again : judge worked_job (bytes "(layout\n(layout\n (track 1 9)\n (wire 1 (0 2) (1 2) (1 4) (5 4))\n (wire 2 (0 6) (1 6) (1 5) (2 5) (2 8) (1 8) (5 8))\n (wire 3 (0 9) (1 9) (1 10) (5 10))\n (track 2 2)\n (wire 4 (0 3) (3 3) (3 2) (5 2))\n (loose 5)\n)\n") ≡ broken_at 2
unfolding computed
opened_again = refl

-- an empty text
pub nothing : judge worked_job (bytes "") ≡ broken_at 1
unfolding computed
nothing = refl

-- a text that stops early: at the line after the last
pub early_end : judge worked_job (bytes "(layout\n") ≡ broken_at 2
unfolding computed
early_end = refl

-- a number with a leading zero is not of the form
pub leading_zero : judge worked_job (bytes "(layout\n (track 1 9)\n (wire 1 (0 2) (1 2) (1 4) (5 4))\n (wire 2 (0 6) (1 6) (1 5) (2 5) (2 8) (1 8) (5 8))\n (wire 3 (0 9) (1 9) (1 10) (5 10))\n (track 2 2)\n (wire 4 (0 3) (3 3) (3 2) (5 2))\n (loose 05)\n)\n") ≡ broken_at 8
unfolding computed
leading_zero = refl

-- net 1 needs 3 rows and is drawn over 5: the sum is 3
pub needed_rows_summed : judge long_job (bytes "(layout\n (track 1 3)\n (wire 1 (0 4) (1 4) (1 3) (2 3) (2 7) (1 7) (1 6) (3 6))\n)\n") ≡ sound_text
unfolding computed
needed_rows_summed = refl

-- the sum over the drawn rows of a long wire is false
pub drawn_rows_summed : judge long_job (bytes "(layout\n (track 1 5)\n (wire 1 (0 4) (1 4) (1 3) (2 3) (2 7) (1 7) (1 6) (3 6))\n)\n") ≡ broken_at 2
unfolding computed
drawn_rows_summed = refl

-- ---- the pass on some of them

pub worked_passed : pass_over worked_job (bytes "(layout\n (track 1 9)\n (wire 1 (0 2) (1 2) (1 4) (5 4))\n (wire 2 (0 6) (1 6) (1 5) (2 5) (2 8) (1 8) (5 8))\n (wire 3 (0 9) (1 9) (1 10) (5 10))\n (track 2 2)\n (wire 4 (0 3) (3 3) (3 2) (5 2))\n (loose 5)\n)\n") ≡ sound_text
unfolding passed
worked_passed = refl

pub end_row_found : pass_over worked_job (bytes "(layout\n (track 1 9)\n (wire 1 (0 2) (1 2) (1 4) (5 4))\n (wire 2 (0 6) (1 6) (2 6) (2 9) (1 9) (1 8) (5 8))\n (wire 3 (0 9) (1 9) (1 10) (5 10))\n (track 2 2)\n (wire 4 (0 3) (3 3) (3 2) (5 2))\n (loose 5)\n)\n") ≡ broken_at 5
unfolding passed
end_row_found = refl

pub untrue_sum_found : pass_over worked_job (bytes "(layout\n (track 1 8)\n (wire 1 (0 2) (1 2) (1 4) (5 4))\n (wire 2 (0 6) (1 6) (1 5) (2 5) (2 8) (1 8) (5 8))\n (wire 3 (0 9) (1 9) (1 10) (5 10))\n (track 2 2)\n (wire 4 (0 3) (3 3) (3 2) (5 2))\n (loose 5)\n)\n") ≡ broken_at 2
unfolding passed
untrue_sum_found = refl

pub sum_found_behind_broken_wire : pass_over worked_job (bytes "(layout\n (track 1 8)\n (wire 1)\n (wire 2 (0 6) (1 6) (1 5) (2 5) (2 8) (1 8) (5 8))\n (wire 3 (0 9) (1 9) (1 10) (5 10))\n (track 2 2)\n (wire 4 (0 3) (3 3) (3 2) (5 2))\n (loose 5)\n)\n") ≡ broken_at 2
unfolding passed
sum_found_behind_broken_wire = refl

pub unjudged_sum_passed_over : pass_over worked_job (bytes "(layout\n (track 1 9)\n (wire 1 (0 2) (1 2) (1 4) (5 4))\n (wire 2 (0 6) (1 6) (1 5) (2 5) (2 8) (1 8) (5 8))\n (wire 3 (0 9) (1 9) (1 10) (5 10))\n (track 2 3)\n (wire 4 (0 3) (3 3) (3 2) (5 2))\n)") ≡ broken_at 8
unfolding passed
unjudged_sum_passed_over = refl

pub falling_loose_found : pass_over worked_job (bytes "(layout\n (track 1 6)\n (wire 2 (0 6) (1 6) (1 5) (2 5) (2 8) (1 8) (5 8))\n (wire 3 (0 9) (1 9) (1 10) (5 10))\n (track 2 0)\n (loose 5)\n (loose 4)\n (loose 1)\n)\n") ≡ broken_at 7
unfolding passed
falling_loose_found = refl
