-- Document 01, "Length, stretch and needed rows": a placement by its top row, which runs from the first to the last. proofs/Tops.antt shows
-- that these are the placements that cover their fixed rows within 1 to H.
use Rattle.std.specs.Prelude.{◌≤◌}
use Rattle.board.specs.declared.Board.{Board}
use Rattle.board.specs.Length.{Allowed}
use Rattle.board.specs.Placement.{Placement, first_top, last_top}

-- the length of p is allowed, and its top row is from `first_top` to `last_top`
pub record InTops (board : Board) (p : Placement) : Type 0 where
  pub allowed : Allowed board p.net p.shape
  pub from_first : first_top p.net p.shape ≤ p.top
  pub to_last : p.top ≤ last_top board p.net p.shape
