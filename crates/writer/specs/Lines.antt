-- The lines of a layout in the parts that the writers write.
use Rattle.std.specs.Prelude.{ℕ, List, [], ◌∷◌, ◌++◌}
use Rattle.board.specs.declared.Board.{Board}
use Rattle.board.specs.declared.Net.{Net}
use Rattle.board.specs.declared.Row.{Row}
use Rattle.board.specs.declared.Shape.{Shape}
use Rattle.board.specs.declared.Track.{Track}
use Rattle.board.specs.Placement.{placement_at}
use Rattle.layout.specs.Tree.{Line, wire}
use Rattle.layout.specs.LayoutText.{line_text}
use Rattle.layout.specs.Drawing.{wire_of}
pub use Rattle.wirepoints.specs.Points.{Drawable}

-- a line and its byte 10
abbrev pub ended_line : Line → List ℕ
ended_line x = line_text x ++ (10 ∷ [])

-- the line of the wire that draws a placement on a track, and its byte 10
abbrev pub wire_line : Board → Track → Net → Shape → Row → List ℕ
wire_line board track net shape top = ended_line (wire (wire_of board track.0 (placement_at net shape top.0)))
