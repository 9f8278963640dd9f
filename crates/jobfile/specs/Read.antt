-- Document 01, "Text of a job" and "Operations", read: a text becomes a job, or a refusal that names its line.
use Rattle.std.specs.Prelude.{ℕ, suc, Bool, true, not, cond, ◌&&◌, List, [], ◌∷◌, ◌++◌, eqb, leb, ltb, length, Option, None, Some}
use Rattle.lists.specs.Lists.{all_of}
use Rattle.board.specs.declared.Board.{Board}
use Rattle.board.specs.declared.Net.{Net}
use Rattle.board.specs.declared.Block.{Block}
use Rattle.board.specs.Job.{Job}
use Rattle.board.specs.Length.{length_of, shortest, needed}
use Rattle.text.specs.Bytes.{lines}
use Rattle.jobfile.specs.declared.Form.{Form}
use Rattle.jobfile.specs.declared.Form.TheVariants as Is
use Rattle.jobfile.specs.declared.Refusal.{Refusal}
use Rattle.jobfile.specs.declared.Refusal.TheVariants.{TooLong, NotOfForm, OutOfRange, TooMany, NumberNotAbove, PinUsed, SameRow, NoLength, TooFewRows}
use Rattle.jobfile.specs.Forms.{read_form}

-- what the lines above hold: nothing yet, `(board`, H too, K too with nets and blocks, the closing bracket too
pub data State : Type 0 where
  start : State
  opened : State
  sized : ℕ → State
  filled : Job → State
  closed : Job → State

-- what a line leads to: the lines go on, or the text is refused
pub data Next : Type 0 where
  go : State → Next
  stop : Refusal → Next

-- x where the test passes, the refusal o where it fails
unfoldable pub unless : Bool → Refusal → Next → Next
unless passed o x = cond passed x (stop o)

-- x where nothing stands above, as `(board` asks; anywhere else line k is not of the form
unfoldable pub at_start : ℕ → State → Next → Next
at_start k start x = x
at_start k opened x = stop (NotOfForm k)
at_start k (sized h) x = stop (NotOfForm k)
at_start k (filled job) x = stop (NotOfForm k)
at_start k (closed job) x = stop (NotOfForm k)

-- x right behind `(board`, as `(rows H)` asks; anywhere else line k is not of the form
unfoldable pub at_opened : ℕ → State → Next → Next
at_opened k start x = stop (NotOfForm k)
at_opened k opened x = x
at_opened k (sized h) x = stop (NotOfForm k)
at_opened k (filled job) x = stop (NotOfForm k)
at_opened k (closed job) x = stop (NotOfForm k)

-- what f makes of H right behind `(rows H)`, as `(tracks K)` asks; anywhere else line k is not of the form
unfoldable pub at_sized : ℕ → State → (ℕ → Next) → Next
at_sized k start f = stop (NotOfForm k)
at_sized k opened f = stop (NotOfForm k)
at_sized k (sized h) f = f h
at_sized k (filled job) f = stop (NotOfForm k)
at_sized k (closed job) f = stop (NotOfForm k)

-- what f makes of the job so far, behind `(tracks K)` and before the closing bracket, as nets, blocks and that bracket ask; anywhere
-- else line k is not of the form
unfoldable pub at_filled : ℕ → State → (Job → Next) → Next
at_filled k start f = stop (NotOfForm k)
at_filled k opened f = stop (NotOfForm k)
at_filled k (sized h) f = stop (NotOfForm k)
at_filled k (filled job) f = f job
at_filled k (closed job) f = stop (NotOfForm k)

-- x is from lo to hi
unfoldable pub within : ℕ → ℕ → ℕ → Bool
within lo hi x = leb lo x && leb x hi

-- the record of a net, by its number, L, R, min, max and weight
abbrev pub net_of : ℕ → ℕ → ℕ → ℕ → ℕ → ℕ → Net
net_of i l r lo hi w = record { number = i; left = record { 0 = l }; right = record { 0 = r }; min = lo; max = hi; weight = w }

-- the weight that a line gives its net: the one that is written; the needed rows where it is left out
unfoldable pub weight_given : Board → Net → Option ℕ → ℕ
weight_given board n None = needed board n
weight_given board n (Some w) = w

-- the net with the weight that its line gives
abbrev pub with_weight : Board → Net → Option ℕ → Net
with_weight board n w =
    record { number = n.number; left = n.left; right = n.right; min = n.min; max = n.max; weight = weight_given board n w }

-- the net that a line gives on a board, by its number, L, R, min, max and the weight, written or left out; no needed rows depend on a weight
abbrev pub net_given : Board → ℕ → ℕ → ℕ → ℕ → ℕ → Option ℕ → Net
net_given board i l r lo hi w = with_weight board (net_of i l r lo hi 0) w

-- the record of a block, by its track, A and B
abbrev pub block_of : ℕ → ℕ → ℕ → Block
block_of t a b = record { track = record { 0 = t }; first = record { 0 = a }; last = record { 0 = b } }

-- the record of a board, by H and K
abbrev pub board_of : ℕ → ℕ → Board
board_of h k = record { rows = h; tracks = k }

-- the job of a board without nets and blocks
abbrev pub empty_job : Board → Job
empty_job board = record { board = board; nets = []; blocks = [] }

-- the job with one more net
abbrev pub with_net : Job → Net → Job
with_net job n = record { board = job.board; nets = job.nets ++ (n ∷ []); blocks = job.blocks }

-- the job with one more block
abbrev pub with_block : Job → Block → Job
with_block job b = record { board = job.board; nets = job.nets; blocks = job.blocks ++ (b ∷ []) }

-- a weight that is written is from 1 to 999
unfoldable pub weight_in_range : Option ℕ → Bool
weight_in_range None = true
weight_in_range (Some w) = within 1 999 w

-- the numbers of a net and the weight that its line gives are in their ranges
unfoldable pub net_in_range : Board → Net → Option ℕ → Bool
net_in_range board n w =
    within 1 9999 n.number &&
    within 1 board.rows n.left.0 &&
    within 1 board.rows n.right.0 &&
    leb n.min 4095 &&
    leb n.max 4095 &&
    weight_in_range w

-- the numbers of a block are in their ranges, and A ≤ B
unfoldable pub block_in_range : Board → Block → Bool
block_in_range board b =
    within 1 board.tracks b.track.0 &&
    within 1 board.rows b.first.0 &&
    within 1 board.rows b.last.0 &&
    leb b.first.0 b.last.0

-- the number of the last net; k where there is none
unfoldable pub last_number : ℕ → List Net → ℕ
last_number k [] = k
last_number k (n ∷ ns) = last_number n.number ns

-- net m leaves the pins of net n free
unfoldable pub pins_free : Net → Net → Bool
pins_free n m = not (eqb m.left.0 n.left.0) && not (eqb m.right.0 n.right.0)

-- the tests of a net with the weight that is given, refusals 3 to 9, the first that fits; state s where all pass. What number 5 asks is
-- handed in, since it depends on how the net comes: a line's number has to be above the last
unfoldable pub test_net : ℕ → Bool → Net → Option ℕ → Job → State → Next
test_net k numbered n w job s =
    unless (net_in_range job.board n w) (OutOfRange k)
    (unless (ltb (length job.nets) 512) (TooMany k)
    (unless numbered (NumberNotAbove k)
    (unless (all_of (pins_free n) job.nets) (PinUsed k)
    (unless (not (eqb n.left.0 n.right.0)) (SameRow k)
    (unless (leb (length_of job.board n (shortest job.board n)) n.max) (NoLength k)
    (unless (leb (needed job.board n) job.board.rows) (TooFewRows k)
    (go s)))))))

-- the number of a net is above that of the last net
unfoldable pub is_above : Net → List Net → Bool
is_above n ns = ltb (last_number 0 ns) n.number

-- line k is a net: refusals 3 to 9
unfoldable pub add_net : ℕ → Net → Option ℕ → Job → Next
add_net k n w job = test_net k (is_above n job.nets) n w job (filled (with_net job n))

-- line k is a block: refusals 3 and 4
unfoldable pub add_block : ℕ → Block → Job → Next
add_block k b job =
    unless (block_in_range job.board b) (OutOfRange k)
    (unless (ltb (length job.blocks) 256) (TooMany k)
    (go (filled (with_block job b))))

-- line k, of the given form, below the lines that led to a state
unfoldable pub step : ℕ → State → Form → Next
step k s Is.Blank = go s
step k s Is.Board = at_start k s (go opened)
step k s (Is.Rows h) = at_opened k s (unless (within 1 1024 h) (OutOfRange k) (go (sized h)))
step k s (Is.Tracks t) = at_sized k s (λ h. unless (within 1 128 t) (OutOfRange k) (go (filled (empty_job (board_of h t)))))
step k s (Is.Net i l r lo hi w) = at_filled k s (λ job. add_net k (net_given job.board i l r lo hi w) w job)
step k s (Is.Block t a b) = at_filled k s (add_block k (block_of t a b))
step k s Is.Close = at_filled k s (λ job. go (closed job))
step k s Is.Other = stop (NotOfForm k)

-- what a text is read as: an accepted job, or a refusal
pub data Read : Type 0 where
  accepted : Job → Read
  refused : Refusal → Read

-- at the end of the text, where k is the line after the last: a text without its closing bracket ends early
unfoldable pub ended : ℕ → State → Read
ended k start = refused (NotOfForm k)
ended k opened = refused (NotOfForm k)
ended k (sized h) = refused (NotOfForm k)
ended k (filled job) = refused (NotOfForm k)
ended k (closed job) = accepted job

-- what a line leads to: the lines below it are read, or the text is refused
unfoldable pub follow : Next → (State → Read) → Read
follow (go s) f = f s
follow (stop o) f = refused o

-- the lines from line k on: the first faulty line counts
unfoldable pub read_from : ℕ → State → List (List ℕ) → Read
read_from k s [] = ended k s
read_from k s (l ∷ ls) = follow (step k s (read_form l)) (λ t. read_from (suc k) t ls)

-- read: the length is tested first
unfoldable pub read_job : List ℕ → Read
read_job text = let r = read_from 1 start (lines text) in cond (leb (length text) 64000) r (refused TooLong)
