-- The nets lent as a list of records: for each eligible net what the choice needs of it, put into a table.
use Rattle.std.specs.Prelude.{ℕ, ◌≤◌, ◌<◌, ◌≡◌, Bool, cond, List, length, get_or, Option, None, Some, IfSome}
use Rattle.board.specs.declared.Board.{Board}
use Rattle.board.specs.declared.Net.{Net}
use Rattle.board.specs.Job.{Job}
use Rattle.board.specs.Accepted.{BoardInRange, AcceptedNet}
use Rattle.board.specs.Stored.{no_net}
use Rattle.candidates.specs.declared.NetTops.{NetTops}
use Rattle.board.specs.declared.Wired.{Wired}
use Rattle.candidates.specs.Gathered.{tops_of}
use Rattle.candidates.specs.Placed.{preceding_of, eligible_at}

-- what the choice needs of net n, if it is eligible
unfoldable pub tops_if : Bool → Board → Net → Option NetTops
tops_if eligible board n = cond eligible (Some (tops_of board n)) None

-- what stands in the table for the first k of the nets ns, where before[i] is the index of the net that precedes net i and stands[i] tells
-- where its wire stands
abbrev pub FirstTops : Board → List Net → List (Option ℕ) → List (Option Wired) → ℕ → List (Option NetTops) → Type 0
FirstTops board ns before stands k table =
    (i : ℕ) → i < k → get_or table i None ≡ tops_if (eligible_at (get_or before i None) stands i) board (get_or ns i no_net)

-- nets that may be lent: those of an accepted job, no more than the table has room for
pub record NetsLent (board : Board) (ns : List Net) (before : List (Option ℕ)) : Type 0 where
  pub board_range : BoardInRange board
  pub accepted : (i : ℕ) → i < length ns → AcceptedNet board (get_or ns i no_net)
  pub few : length ns ≤ 512
  pub before_range : (i : ℕ) → i < length ns → IfSome (get_or before i None) (λ k. k < 512)

-- the table of a track, where stands[k] tells where the wire of net k stands: what the choice needs of each net of the job, if it is
-- eligible
abbrev pub TableOf : Job → List (Option Wired) → List (Option NetTops) → Type 0
TableOf job stands table = FirstTops job.board job.nets (preceding_of job) stands (length job.nets) table
