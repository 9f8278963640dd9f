-- The outcome of a line that gives a net or a block, and what the nets above it come to.
use Rattle.std.specs.Prelude.{◌≡◌, List, ℕ, ◌≤◌, eqb, length, Result, Ok, Err}
use Rattle.lists.specs.Lists.{any_of}
use Rattle.board.specs.declared.Board.{Board}
use Rattle.board.specs.declared.Net.{Net}
use Rattle.board.specs.Job.{Job}
use Rattle.blockmap.specs.Bits.{is_set}
use Rattle.jobfile.specs.declared.Refusal.{Refusal}
use Rattle.jobfile.specs.Read.{Next, go, stop}
use Rattle.jobrules.specs.declared.UsedPins.{UsedPins}

-- the outcome of a line: nothing is refused where the lines go on
unfoldable pub outcome_of : Next → Result (Unit {0}) Refusal
outcome_of (go s) = Ok tt
outcome_of (stop o) = Err o

-- L and R of a net are rows of the largest board
pub record RowsInRange (net : Net) : Type 0 where
  pub left_range : (1 ≤ net.left.0) × (net.left.0 ≤ 1024)
  pub right_range : (1 ≤ net.right.0) × (net.right.0 ≤ 1024)

-- the pins that the nets use: on either side exactly the bits of their rows are set
pub record PinsOf (nets : List Net) (used : UsedPins) : Type 0 where
  pub left_is : (row : ℕ) → is_set used.left.words row ≡ any_of (λ n. eqb row n.left.0) nets
  pub right_is : (row : ℕ) → is_set used.right.words row ≡ any_of (λ n. eqb row n.right.0) nets

-- what a net more of the job is held against: the size, how many nets there are and the pins that they use
pub record NetsAbove (job : Job) (size : Board) (count : ℕ) (used : UsedPins) : Type 0 where
  pub size_is : job.board ≡ size
  pub count_is : length job.nets ≡ count
  pub pins : PinsOf job.nets used
