-- All broken lines computed, of layouts that break several rules. The expected lines are those that the second router lists. Assumes nothing.
use Prim.Native.Nat.{ℕ}
use mathlib.Core.Path.{◌≡◌, refl}
use mathlib.Core.List.{List, [], ◌∷◌}
use Rattle.board.specs.Job.{Job}
use Rattle.board.specs.WorkedBoard.{worked_job}
use Rattle.text.specs.Bytes.{bytes}
use Rattle.drc.specs.BrokenLines.{broken_end, broken_from, broken_lines}
use Rattle.drc.proofs.ComputedVerdicts.{computed}

-- the broken lines of a text. To unfold this is to unfold all that they compute with
unfoldable computed_lines : Job → List ℕ → List ℕ
unfolding computed broken_lines broken_from broken_end
computed_lines job text = broken_lines job text

-- a false sum, and a wire drawn on another track
pub false_sum_and_other_track : broken_lines worked_job (bytes "(layout\n (track 1 8)\n (wire 1 (0 2) (1 2) (1 4) (5 4))\n (wire 2 (0 6) (1 6) (1 5) (2 5) (2 8) (1 8) (5 8))\n (wire 3 (0 9) (1 9) (1 10) (5 10))\n (track 2 2)\n (wire 4 (0 3) (1 3) (1 2) (5 2))\n (loose 5)\n)\n") ≡ 2 ∷ 7 ∷ []
unfolding computed_lines
false_sum_and_other_track = refl

-- loose lines 5, 4, 1: each is held against all above it
pub loose_lines_fall : broken_lines worked_job (bytes "(layout\n (track 1 6)\n (wire 2 (0 6) (1 6) (1 5) (2 5) (2 8) (1 8) (5 8))\n (wire 3 (0 9) (1 9) (1 10) (5 10))\n (track 2 0)\n (loose 5)\n (loose 4)\n (loose 1)\n)\n") ≡ 7 ∷ 8 ∷ []
unfolding computed_lines
loose_lines_fall = refl

-- net 1 precedes net 4 on the same track: its wire for the preceding net, the later line for the shared row
pub both_on_one_track : broken_lines worked_job (bytes "(layout\n (track 1 11)\n (wire 4 (0 3) (1 3) (1 2) (5 2))\n (wire 1 (0 2) (1 2) (1 4) (5 4))\n (wire 2 (0 6) (1 6) (1 5) (2 5) (2 8) (1 8) (5 8))\n (wire 3 (0 9) (1 9) (1 10) (5 10))\n (track 2 0)\n (loose 5)\n)\n") ≡ 3 ∷ 4 ∷ []
unfolding computed_lines
both_on_one_track = refl

-- a missing net, and its line behind the closing line
pub line_behind_closing : broken_lines worked_job (bytes "(layout\n (track 1 9)\n (wire 1 (0 2) (1 2) (1 4) (5 4))\n (wire 2 (0 6) (1 6) (1 5) (2 5) (2 8) (1 8) (5 8))\n (wire 3 (0 9) (1 9) (1 10) (5 10))\n (track 2 2)\n (wire 4 (0 3) (3 3) (3 2) (5 2))\n)\n (loose 5)\n") ≡ 8 ∷ 9 ∷ []
unfolding computed_lines
line_behind_closing = refl

-- a false sum, judged at the loose line, and a wire behind that
pub sum_and_wire_behind_loose : broken_lines worked_job (bytes "(layout\n (track 1 9)\n (wire 1 (0 2) (1 2) (1 4) (5 4))\n (wire 2 (0 6) (1 6) (1 5) (2 5) (2 8) (1 8) (5 8))\n (wire 3 (0 9) (1 9) (1 10) (5 10))\n (track 2 2)\n (loose 5)\n (wire 4 (0 3) (3 3) (3 2) (5 2))\n)\n") ≡ 6 ∷ 8 ∷ []
unfolding computed_lines
sum_and_wire_behind_loose = refl

-- net 1 covers no row, and still precedes net 4 on the same track
pub same_track_without_points : broken_lines worked_job (bytes "(layout\n (track 1 11)\n (wire 1)\n (wire 4 (0 3) (1 3) (1 2) (5 2))\n (wire 2 (0 6) (1 6) (1 5) (2 5) (2 8) (1 8) (5 8))\n (wire 3 (0 9) (1 9) (1 10) (5 10))\n (track 2 0)\n (loose 5)\n)\n") ≡ 3 ∷ 4 ∷ []
unfolding computed_lines
same_track_without_points = refl

-- net 2 at a length that is not allowed covers rows 5 to 9
pub forbidden_length_covers : broken_lines worked_job (bytes "(layout\n (track 1 9)\n (wire 1 (0 2) (1 2) (1 4) (5 4))\n (wire 2 (0 6) (1 6) (1 5) (2 5) (2 9) (1 9) (1 8) (5 8))\n (wire 3 (0 9) (1 9) (1 10) (5 10))\n (track 2 2)\n (wire 4 (0 3) (3 3) (3 2) (5 2))\n (loose 5)\n)\n") ≡ 4 ∷ 5 ∷ []
unfolding computed_lines
forbidden_length_covers = refl

-- net 2 drawn on track 2 under track line 1 covers rows 6 to 9
pub other_track_covers : broken_lines worked_job (bytes "(layout\n (track 1 9)\n (wire 1 (0 2) (1 2) (1 4) (5 4))\n (wire 2 (0 6) (3 6) (4 6) (4 9) (3 9) (3 8) (5 8))\n (wire 3 (0 9) (1 9) (1 10) (5 10))\n (track 2 2)\n (wire 4 (0 3) (3 3) (3 2) (5 2))\n (loose 5)\n)\n") ≡ 4 ∷ 5 ∷ []
unfolding computed_lines
other_track_covers = refl

-- net 1 again on track 2, where it shares rows with net 4 and makes the sum false
pub twice_wired : broken_lines worked_job (bytes "(layout\n (track 1 9)\n (wire 1 (0 2) (1 2) (1 4) (5 4))\n (wire 2 (0 6) (1 6) (1 5) (2 5) (2 8) (1 8) (5 8))\n (wire 3 (0 9) (1 9) (1 10) (5 10))\n (track 2 2)\n (wire 1 (0 2) (3 2) (3 4) (5 4))\n (wire 4 (0 3) (3 3) (3 2) (5 2))\n (loose 5)\n)\n") ≡ 6 ∷ 7 ∷ 8 ∷ []
unfolding computed_lines
twice_wired = refl

-- a wire of no net: its own line, the sum, the net that net 1 precedes, and net 1 is missing
pub other_number : broken_lines worked_job (bytes "(layout\n (track 1 9)\n (wire 7 (0 2) (1 2) (1 4) (5 4))\n (wire 2 (0 6) (1 6) (1 5) (2 5) (2 8) (1 8) (5 8))\n (wire 3 (0 9) (1 9) (1 10) (5 10))\n (track 2 2)\n (wire 4 (0 3) (3 3) (3 2) (5 2))\n (loose 5)\n)\n") ≡ 2 ∷ 3 ∷ 7 ∷ 9 ∷ []
unfolding computed_lines
other_number = refl

-- a wire of no net counts 0: the sum of the two others is true
pub other_number_counts_nothing : broken_lines worked_job (bytes "(layout\n (track 1 6)\n (wire 7 (0 2) (1 2) (1 4) (5 4))\n (wire 2 (0 6) (1 6) (1 5) (2 5) (2 8) (1 8) (5 8))\n (wire 3 (0 9) (1 9) (1 10) (5 10))\n (track 2 2)\n (wire 4 (0 3) (3 3) (3 2) (5 2))\n (loose 5)\n)\n") ≡ 3 ∷ 7 ∷ 9 ∷ []
unfolding computed_lines
other_number_counts_nothing = refl

-- behind a line not of the form nothing is judged
pub judging_closed : broken_lines worked_job (bytes "(layout\n (track 1 9)\n (wire 1 (0 2) (1 2) (1 4) (5 4))\n (wire 2 (0 6) (1 6) (2 6) (2 9) (1 9) (1 8) (5 8))\n (wire 3 (0 9) (1 9) (1 10) (5 10))\n (track 2  2)\n (wire 4)\n (loose 5)\n)\n") ≡ 5 ∷ 6 ∷ []
unfolding computed_lines
judging_closed = refl
