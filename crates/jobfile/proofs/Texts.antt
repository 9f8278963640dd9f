-- What small texts are read as, those of the readings of document 01 among them, and its worked board. Assumes nothing.
use Rattle.std.specs.Prelude.{None}
use Prim.Native.Nat.{ℕ, zero, suc, ◌+◌, ◌≤◌}
use mathlib.Core.Path.{◌≡◌, refl, ap, ◌∙◌}
use mathlib.Core.List.{[], ◌∷◌}
use native.Mathlib.Omega.{arith}
use lib.ListN.{replicate, length-replicate}
use Rattle.board.specs.Job.{Job}
use Rattle.board.specs.WorkedBoard.{worked_job}
use Rattle.board.specs.WeightedBoard.{weighted_job}
use Rattle.text.specs.Bytes.{bytes, lines}
use Rattle.jobfile.specs.declared.Form.TheVariants as Is
use Rattle.jobfile.specs.declared.Refusal.TheVariants.{NotOfForm, OutOfRange, TooMany, NumberNotAbove, PinUsed, SameRow, NoLength, TooFewRows}
use Rattle.jobfile.specs.Read.{start, stop, net_of, block_of, board_of, empty_job, add_net, add_block, accepted, refused, read_from, read_job}
use Rattle.jobfile.specs.Faults.{forms_of, with_form, job_from, job_in}
use Rattle.board.specs.Accepted.{AcceptedJob}
use Rattle.jobfile.proofs.Accepts.{read_accepted}
use Rattle.jobfile.proofs.Tests.{read_cases}
use Rattle.jobfile.specs.TextsRead.{read_as, worked_text}

-- a text that ends early is refused at the line after its last; any faulty line above counts before that
ends_early :
    (read_as "" ≡ refused (NotOfForm 1)) ×
    (read_as "\n" ≡ refused (NotOfForm 2)) ×
    (read_as "   " ≡ refused (NotOfForm 2)) ×
    (read_as "(board\n\n" ≡ refused (NotOfForm 3)) ×
    (read_as "(board\n(rows 5)\n(tracks 1)\n(block 1 1 1)\n" ≡ refused (NotOfForm 5)) ×
    (read_as "(board\n(rows 0)\n" ≡ refused (OutOfRange 2))
unfolding read_as
ends_early = (refl, refl, refl, refl, refl, refl)

-- a last line needs no byte 10; blank lines are skipped, before the first form and behind the last too, but counted
lines_end :
    (read_as "(board\n(rows 5)\n(tracks 1)\n)" ≡ accepted (empty_job (board_of 5 1))) ×
    (read_as "\n (board \n  \n( rows 5 )\n(tracks  1)\n ) \n \n" ≡ accepted (empty_job (board_of 5 1))) ×
    (read_as "(board\n(rows 5)\n(tracks 1)\n)\n\n)\n" ≡ refused (NotOfForm 6)) ×
    (read_as "(board\n(rows 5)\n(tracks 1)\n)\n(block 1 1 1)\n" ≡ refused (NotOfForm 5))
unfolding read_as
lines_end = (refl, refl, refl, refl)

-- a form for each line, blank ones too, and none behind the last byte 10
line_forms :
    (forms_of (bytes "\n(board\n  \n(rows 5)\n)\n\n") ≡ Is.Blank ∷ Is.Board ∷ Is.Blank ∷ Is.Rows 5 ∷ Is.Close ∷ Is.Blank ∷ []) ×
    (forms_of (bytes "(board\n)") ≡ Is.Board ∷ Is.Close ∷ [])
unfolding read_as
line_forms = (refl, refl)

-- byte 32 alone is a space
spaces :
    (read_as "\t\n" ≡ refused (NotOfForm 1)) ×
    (read_as "(board\r\n" ≡ refused (NotOfForm 1)) ×
    (read_as "(board\n(rows\t5)\n" ≡ refused (NotOfForm 2))
unfolding read_as
spaces = (refl, refl, refl)

-- one form a line, its words and numbers apart
one_form :
    (read_as "(board (rows 5)\n" ≡ refused (NotOfForm 1)) ×
    (read_as "(board)\n" ≡ refused (NotOfForm 1)) ×
    (read_as "(board\n(rows5)\n" ≡ refused (NotOfForm 2)) ×
    (read_as "(board\n(rows 5)\n(tracks 1))\n" ≡ refused (NotOfForm 3)) ×
    (read_as "(board\n(rows 5)\n(tracks 1)\n(net 1 1 2 0)\n" ≡ refused (NotOfForm 4))
unfolding read_as
one_form = (refl, refl, refl, refl, refl)

-- a number is one to five digits, leading zeros or not, without a sign
numbers :
    (read_as "(board\n(rows 00010)\n(tracks 1)\n)\n" ≡ accepted (empty_job (board_of 10 1))) ×
    (read_as "(board\n(rows 000010)\n" ≡ refused (NotOfForm 2)) ×
    (read_as "(board\n(rows +5)\n" ≡ refused (NotOfForm 2)) ×
    (read_as "(board\n(rows 99999)\n" ≡ refused (OutOfRange 2))
unfolding read_as
numbers = (refl, refl, refl, refl)

-- a form in a wrong place is not of the form, whatever its numbers
places :
    (read_as "(board\n(rows 5)\n(rows 0)\n" ≡ refused (NotOfForm 3)) ×
    (read_as "(board\n(rows 5)\n(net 1 1 2 0 9)\n" ≡ refused (NotOfForm 3)) ×
    (read_as "(board\n)\n" ≡ refused (NotOfForm 2)) ×
    (read_as "(rows 5)\n" ≡ refused (NotOfForm 1))
unfolding read_as
places = (refl, refl, refl, refl)

-- a number outside its range
ranges :
    (read_as "(board\n(rows 1025)\n" ≡ refused (OutOfRange 2)) ×
    (read_as "(board\n(rows 5)\n(tracks 0)\n" ≡ refused (OutOfRange 3)) ×
    (read_as "(board\n(rows 5)\n(tracks 129)\n" ≡ refused (OutOfRange 3)) ×
    (read_as "(board\n(rows 5)\n(tracks 1)\n(block 1 3 2)\n" ≡ refused (OutOfRange 4)) ×
    (read_as "(board\n(rows 5)\n(tracks 1)\n(block 2 1 1)\n" ≡ refused (OutOfRange 4)) ×
    (read_as "(board\n(rows 5)\n(tracks 1)\n(block 1 1 6)\n" ≡ refused (OutOfRange 4)) ×
    (read_as "(board\n(rows 5)\n(tracks 1)\n(net 0 1 2 0 9)\n" ≡ refused (OutOfRange 4)) ×
    (read_as "(board\n(rows 5)\n(tracks 1)\n(net 1 1 6 0 9)\n" ≡ refused (OutOfRange 4)) ×
    (read_as "(board\n(rows 5)\n(tracks 1)\n(net 1 1 2 4096 9)\n" ≡ refused (OutOfRange 4))
unfolding read_as
ranges = (refl, refl, refl, refl, refl, refl, refl, refl, refl)

-- a number not above that of the net before, blocks between or not, counts before a used row; left and right rows are apart
pins :
    (read_as "(board\n(rows 5)\n(tracks 1)\n(net 7 1 2 0 9)\n(block 1 1 1)\n(net 7 1 3 0 9)\n" ≡ refused (NumberNotAbove 6)) ×
    (read_as "(board\n(rows 5)\n(tracks 1)\n(net 1 1 2 0 9)\n(net 2 1 1 0 9)\n" ≡ refused (PinUsed 5)) ×
    (read_as "(board\n(rows 5)\n(tracks 1)\n(net 1 1 2 0 9)\n(net 2 3 2 0 9)\n" ≡ refused (PinUsed 5)) ×
    (read_as "(board\n(rows 5)\n(tracks 1)\n(net 1 1 2 0 9)\n(net 2 2 1 0 9)\n)\n" ≡
    accepted (record { board = board_of 5 1; nets = net_of 1 1 2 0 9 2 ∷ net_of 2 2 1 0 9 2 ∷ []; blocks = [] }))
unfolding read_as
pins = (refl, refl, refl, refl)

-- L = R counts before the bounds; min above max, no length between them, max below D; these count before too few rows
lengths :
    (read_as "(board\n(rows 5)\n(tracks 1)\n(net 1 2 2 9 8)\n" ≡ refused (SameRow 4)) ×
    (read_as "(board\n(rows 21)\n(tracks 1)\n(net 1 10 14 9 8)\n" ≡ refused (NoLength 4)) ×
    (read_as "(board\n(rows 21)\n(tracks 1)\n(net 1 10 14 22 22)\n" ≡ refused (NoLength 4)) ×
    (read_as "(board\n(rows 21)\n(tracks 1)\n(net 1 10 14 0 6)\n" ≡ refused (NoLength 4)) ×
    (read_as "(board\n(rows 11)\n(tracks 1)\n(net 1 2 6 22 22)\n" ≡ refused (NoLength 4)) ×
    (read_as "(board\n(rows 11)\n(tracks 1)\n(net 1 2 6 22 23)\n" ≡ refused (TooFewRows 4))
unfolding read_as
lengths = (refl, refl, refl, refl, refl, refl)

-- a weight that is written counts, 1 to 999; one that is left out is the needed rows, also above 999; a written one above 999 is refused 3,
-- also where it is the needed rows, and so is a written 0; 3 comes before 5 to 8
weights :
    (read_as "(board\n(rows 5)\n(tracks 1)\n(net 1 1 2 0 9 7)\n)\n" ≡ accepted (record { board = board_of 5 1; nets = net_of 1 1 2 0 9 7 ∷ []; blocks = [] })) ×
    (read_as "(board\n(rows 5)\n(tracks 1)\n(net 1 1 2 0 9 1)\n)\n" ≡ accepted (record { board = board_of 5 1; nets = net_of 1 1 2 0 9 1 ∷ []; blocks = [] })) ×
    (read_as "(board\n(rows 5)\n(tracks 1)\n(net 1 1 2 0 9 999)\n)\n" ≡ accepted (record { board = board_of 5 1; nets = net_of 1 1 2 0 9 999 ∷ []; blocks = [] })) ×
    (read_as "(board\n(rows 5)\n(tracks 1)\n(net 1 1 2 0 9 2)\n)\n" ≡ read_as "(board\n(rows 5)\n(tracks 1)\n(net 1 1 2 0 9)\n)\n") ×
    (read_as "(board\n(rows 1024)\n(tracks 1)\n(net 1 1 1010 0 4095)\n)\n" ≡ accepted (record { board = board_of 1024 1; nets = net_of 1 1 1010 0 4095 1010 ∷ []; blocks = [] })) ×
    (read_as "(board\n(rows 1024)\n(tracks 1)\n(net 1 1 1010 0 4095 1010)\n)\n" ≡ refused (OutOfRange 4)) ×
    (read_as "(board\n(rows 5)\n(tracks 1)\n(net 1 1 2 0 9 0)\n)\n" ≡ refused (OutOfRange 4)) ×
    (read_as "(board\n(rows 5)\n(tracks 1)\n(net 1 1 2 0 9 1000)\n)\n" ≡ refused (OutOfRange 4)) ×
    (read_as "(board\n(rows 5)\n(tracks 1)\n(net 1 1 2 0 9)\n(net 1 1 1 0 0 1000)\n)\n" ≡ refused (OutOfRange 5))
unfolding read_as
weights = (refl, refl, refl, refl, refl, refl, refl, refl, refl)

-- each form with one number less and one more than it takes, and with words behind its closing bracket
counts :
    (read_as "(board\n(rows)\n" ≡ refused (NotOfForm 2)) ×
    (read_as "(board\n(rows 5 6)\n" ≡ refused (NotOfForm 2)) ×
    (read_as "(board\n(rows 5)\n(tracks)\n" ≡ refused (NotOfForm 3)) ×
    (read_as "(board\n(rows 5)\n(tracks 1 2)\n" ≡ refused (NotOfForm 3)) ×
    (read_as "(board\n(rows 5)\n(tracks 1)\n(net 1 1 2 0)\n" ≡ refused (NotOfForm 4)) ×
    (read_as "(board\n(rows 5)\n(tracks 1)\n(net 1 1 2 0 9 7 7)\n" ≡ refused (NotOfForm 4)) ×
    (read_as "(board\n(rows 5)\n(tracks 1)\n(block 1 1)\n" ≡ refused (NotOfForm 4)) ×
    (read_as "(board\n(rows 5)\n(tracks 1)\n(block 1 1 1 7)\n" ≡ refused (NotOfForm 4)) ×
    (read_as "(board\n(rows 5)\n(tracks 1)\n(net 1 1 2 0 9) 7\n" ≡ refused (NotOfForm 4)) ×
    (read_as "(board\n(rows 5)\n(tracks 1)\n(net 1 1 2 0 9 7) 7\n" ≡ refused (NotOfForm 4))
unfolding read_as
counts = (refl, refl, refl, refl, refl, refl, refl, refl, refl, refl)

-- the board on which a weight turns the choice over: a weight of 2, written or left out, and one of 7
weighted_board :
    (read_as "(board\n(rows 6)\n(tracks 1)\n(net 1 1 6 0 4095)\n(net 2 2 3 0 4095 7)\n(net 3 4 5 0 4095)\n)\n" ≡ accepted (weighted_job 7)) ×
    (read_as "(board\n(rows 6)\n(tracks 1)\n(net 1 1 6 0 4095)\n(net 2 2 3 0 4095 2)\n(net 3 4 5 0 4095)\n)\n" ≡ accepted (weighted_job 2)) ×
    (read_as "(board\n(rows 6)\n(tracks 1)\n(net 1 1 6 0 4095)\n(net 2 2 3 0 4095)\n(net 3 4 5 0 4095)\n)\n" ≡ accepted (weighted_job 2))
unfolding read_as
weighted_board = (refl, refl, refl)

-- document 01's worked board is read as the worked job
pub worked_board : read_as worked_text ≡ accepted worked_job
unfolding read_as
worked_board = refl

-- so there are accepted jobs: what is shown of them is not empty
pub worked_accepted : AcceptedJob worked_job
unfolding read_as
worked_accepted = read_accepted (bytes worked_text) worked_job worked_board

-- the lines of the worked board hold the worked job
worked_held : job_in (forms_of (bytes worked_text)) ≡ worked_job
unfolding read_as with_form job_from
worked_held = refl

-- n empty lines end early at line n + 1, so 64,000 of them at line 64,001
empty_from : (n k : ℕ) → read_from k start (lines (replicate n 10)) ≡ refused (NotOfForm (k + n))
unfolding read_as
empty_from zero k = let e : k ≡ k + 0 = omega arith in ap (λ i. refused (NotOfForm i)) e
empty_from (suc n) k =
    let e : suc k + n ≡ k + suc n = omega arith in
    empty_from n (suc k) ∙ ap (λ i. refused (NotOfForm i)) e

empty_lines : (n : ℕ) → n ≤ 64000 → read_job (replicate n 10) ≡ refused (NotOfForm (suc n))
empty_lines n h =
    let l = length-replicate {A = ℕ} n 10 in
    let e : 1 + n ≡ suc n = omega arith in
    read_cases (replicate n 10) (λ r. r ≡ refused (NotOfForm (suc n)))
    (λ m. empty_from n 1 ∙ ap (λ i. refused (NotOfForm i)) e)
    (λ m. absurd (omega arith))

-- a 513th net counts as one too many before its number is looked at, and its ranges count before that; the same of a 257th block
abbrev full : Job
full =
    record {
      board = board_of 9 1;
      nets = replicate 512 (net_of 9 1 2 0 9 2);
      blocks = replicate 256 (block_of 1 1 1);
    }

too_many :
    (add_net 600 (net_of 10 3 4 0 9 2) None full ≡ stop (TooMany 600)) ×
    (add_net 600 (net_of 9 3 4 0 9 2) None full ≡ stop (TooMany 600)) ×
    (add_net 600 (net_of 9 3 10 0 9 2) None full ≡ stop (OutOfRange 600)) ×
    (add_block 600 (block_of 1 1 1) full ≡ stop (TooMany 600)) ×
    (add_block 600 (block_of 2 1 1) full ≡ stop (OutOfRange 600))
unfolding read_as
too_many = (refl, refl, refl, refl, refl)
