-- Document 01, "Boards to try": the starred boards in one list, each a job file with what the document says of it, and what it is for that
-- to hold, in the terms of read and route. The texts of the job files are written from the document.
use Rattle.std.specs.Prelude.{ℕ, ◌+◌, ◌≡◌, List, [], ◌∷◌}
use Rattle.board.specs.declared.Net.{Net}
use Rattle.board.specs.Job.{Job}
use Rattle.board.specs.TriedBoards.{Tried}
use Rattle.text.specs.Bytes.{bytes}
use Rattle.jobfile.specs.declared.Refusal.{Refusal}
use Rattle.jobfile.specs.Read.{accepted, refused, read_job}
use Rattle.jobfile.specs.Answers.{number_of, line_of}
use Rattle.jobfile.specs.TextsRead.{worked_text}
use Rattle.routing.specs.Route.{route_text}

-- what the document says of a job file: the bytes of its layout; of its one net the shortest allowed length, the stretch, the needed rows,
-- the number of tops, the first of them and the last; or the number and the line of its refusal
pub data Expected : Type 0 where
  gives_layout : (text : List ℕ) → Expected
  gives_net : (shortest_length stretch needed tops first last : ℕ) → Expected
  gives_refusal : (number line : ℕ) → Expected

-- a starred board: the bytes of its job file, and what the document says of it
pub record StarredBoard : Type 0 where
  pub text : List ℕ
  pub expected : Expected

-- the text is accepted, and route writes these bytes
pub record LaidOut (text written : List ℕ) : Type 0 where
  pub job : Job
  pub read : read_job text ≡ accepted job
  pub written_is : route_text job ≡ written

-- the text is accepted, its job has exactly one net, and the net's shortest allowed length, stretch and needed rows are these, its tops
-- there, so many, the rows `first` to `last`
pub record OneNet (text : List ℕ) (shortest_length stretch needed tops first last : ℕ) : Type 0 where
  pub job : Job
  pub net : Net
  pub read : read_job text ≡ accepted job
  pub only : job.nets ≡ net ∷ []
  pub tried : Tried job.board net shortest_length stretch needed first last
  pub so_many : first + tops ≡ last + 1

-- the text is refused with this number and this line
pub record RefusedWith (text : List ℕ) (number line : ℕ) : Type 0 where
  pub outcome : Refusal
  pub read : read_job text ≡ refused outcome
  pub number_is : number_of outcome ≡ number
  pub line_is : line_of outcome ≡ line

-- the job file meets what is expected of it
abbrev pub Meets : List ℕ → Expected → Type 0
Meets text (gives_layout written) = LaidOut text written
Meets text (gives_net shortest_length stretch needed tops first last) = OneNet text shortest_length stretch needed tops first last
Meets text (gives_refusal number line) = RefusedWith text number line

-- what the document says of a starred board holds
abbrev pub AsStated : StarredBoard → Type 0
AsStated b = Meets b.text b.expected

-- the starred boards, in the document's order
abbrev pub starred_boards : List StarredBoard
starred_boards =
    -- the board above, and the layout that route writes, exactly
    record {
      text = bytes worked_text;
      expected = gives_layout (bytes "(layout\n (track 1 9)\n (wire 1 (0 2) (1 2) (1 4) (5 4))\n (wire 2 (0 6) (1 6) (1 5) (2 5) (2 8) (1 8) (5 8))\n (wire 3 (0 9) (1 9) (1 10) (5 10))\n (track 2 2)\n (wire 4 (0 3) (3 3) (3 2) (5 2))\n (loose 5)\n)\n");
    } ∷
    -- rows 21, tracks 1, net 10 to 14: min = max = 23 gives e = 7, n = 12, eight tops, 3 to 10
    record { text = bytes "(board\n (rows 21)\n (tracks 1)\n (net 1 10 14 23 23)\n)\n"; expected = gives_net 23 7 12 8 3 10 } ∷
    -- 20 rows give seven
    record { text = bytes "(board\n (rows 20)\n (tracks 1)\n (net 1 10 14 23 23)\n)\n"; expected = gives_net 23 7 12 7 3 9 } ∷
    -- 14 rows one
    record { text = bytes "(board\n (rows 14)\n (tracks 1)\n (net 1 10 14 23 23)\n)\n"; expected = gives_net 23 7 12 1 3 3 } ∷
    -- min 22 with max 23 gives 23
    record { text = bytes "(board\n (rows 21)\n (tracks 1)\n (net 1 10 14 22 23)\n)\n"; expected = gives_net 23 7 12 8 3 10 } ∷
    -- max 22 is refused 8
    record { text = bytes "(board\n (rows 21)\n (tracks 1)\n (net 1 10 14 22 22)\n)\n"; expected = gives_refusal 8 4 } ∷
    -- min 8, max 9 gives e = 0
    record { text = bytes "(board\n (rows 21)\n (tracks 1)\n (net 1 10 14 8 9)\n)\n"; expected = gives_net 9 0 5 1 10 10 } ∷
    -- max 8 is refused 8
    record { text = bytes "(board\n (rows 21)\n (tracks 1)\n (net 1 10 14 8 8)\n)\n"; expected = gives_refusal 8 4 } ∷
    -- no nets: all sums 0
    record { text = bytes "(board\n (rows 21)\n (tracks 2)\n)\n"; expected = gives_layout (bytes "(layout\n (track 1 0)\n (track 2 0)\n)\n") } ∷
    -- empty file: refused 2, line 1
    record { text = bytes ""; expected = gives_refusal 2 1 } ∷
    []
