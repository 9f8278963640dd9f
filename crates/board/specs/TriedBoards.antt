-- Document 01, "Boards to try": one net, from row 10 to row 14, on a board with one track, and what is tried of it.
use Rattle.std.specs.Prelude.{ℕ, ◌≤◌, ◌≡◌, ◌↔◌}
use Rattle.board.specs.declared.Board.{Board}
use Rattle.board.specs.declared.Net.{Net}
use Rattle.board.specs.declared.Shape.TheVariants.{Stretched}
use Rattle.board.specs.Length.{length_of, Allowed, shortest, needed}
use Rattle.board.specs.Placement.{Legal, shortest_at}

-- a board with one track and so many rows
abbrev pub tried_board : ℕ → Board
tried_board rows = record { rows = rows; tracks = 1 }

-- the net from row 10 to row 14 with these bounds and this weight
abbrev pub tried_net : ℕ → ℕ → ℕ → Net
tried_net least most heavy = record { number = 1; left = record { 0 = 10 }; right = record { 0 = 14 }; min = least; max = most; weight = heavy }

-- the shortest allowed length of the net is l, with stretch e and n needed rows, and its tops there are the rows `first` to `last`
pub record Tried (board : Board) (net : Net) (l e n first last : ℕ) : Type 0 where
  pub shape : shortest board net ≡ Stretched e
  pub length_is : length_of board net (shortest board net) ≡ l
  pub allowed : Allowed board net (shortest board net)
  pub needed_is : needed board net ≡ n
  pub tops : (top : ℕ) → Legal board (shortest_at board net top) ↔ ((first ≤ top) × (top ≤ last))
