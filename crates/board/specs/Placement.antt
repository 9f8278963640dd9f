-- Document 01, "Length, stretch and needed rows": placements of a net, their rows, and the top rows that they can have.
use Rattle.std.specs.Prelude.{ℕ, ◌+◌, ◌-◌, ◌≤◌, min, max, ◌≡◌, false}
use Rattle.board.specs.declared.Board.{Board}
use Rattle.board.specs.declared.Net.{Net}
use Rattle.board.specs.declared.Shape.{Shape}
use Rattle.board.specs.Length.{Allowed, shortest, extra, upper, lower, span}
use Rattle.board.specs.Job.{Job, blocked}

-- m = b − a + 1 + e, the rows that a net covers in a shape
unfoldable pub covered : Net → Shape → ℕ
covered n s = span n + 1 + extra s

-- a net drawn in a shape, with its uppermost row at `top`
pub record Placement : Type 0 where
  pub net : Net
  pub shape : Shape
  pub top : ℕ

-- net n in shape s, with its top at row j
abbrev pub placement_at : Net → Shape → ℕ → Placement
placement_at n s j = record { net = n; shape = s; top = j }

-- a shortest placement: net n at its shortest length, with its top at row j
abbrev pub shortest_at : Board → Net → ℕ → Placement
shortest_at board n j = record { net = n; shape = shortest board n; top = j }

-- s, the lowest row that a placement covers
abbrev pub bottom : Placement → ℕ
bottom p = p.top + span p.net + extra p.shape

-- a placement at an allowed length covers its net's fixed rows a to b and e more, shared in any way between above and below,
-- within rows 1 to H
pub record Legal (board : Board) (p : Placement) : Type 0 where
  pub allowed : Allowed board p.net p.shape
  pub from_one : 1 ≤ p.top
  pub over_upper : p.top ≤ upper p.net
  pub under_lower : lower p.net ≤ bottom p
  pub to_last : bottom p ≤ board.rows

-- max(1, a − e), the first top row of a net in a shape
unfoldable pub first_top : Net → Shape → ℕ
first_top n s = max 1 (upper n - extra s)

-- min(a, H − m + 1), the last top row of a net in a shape; 0 where m is above H
unfoldable pub last_top : Board → Net → Shape → ℕ
last_top board n s = min (upper n) (board.rows + 1 - covered n s)

-- clear of blocks: no row of the placement is blocked on track t
abbrev pub Clear : Job → ℕ → Placement → Type 0
Clear job t p = (row : ℕ) → p.top ≤ row → row ≤ bottom p → blocked job t row ≡ false
