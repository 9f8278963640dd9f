-- Where a net stands that a wire line draws: the place that its points can draw, and whether they do.
use Rattle.std.specs.Prelude.{ℕ, ◌-◌, ◌≤◌, min, max, ◌≡◌, List, Option, None, Some, option_map}
use Rattle.board.specs.declared.Board.{Board}
use Rattle.board.specs.declared.BoardNet.{BoardNet}
use Rattle.board.specs.declared.Net.{Net}
use Rattle.board.specs.declared.Shape.TheVariants.{Plain, Stretched}
use Rattle.board.specs.declared.Track.{Track}
use Rattle.board.specs.declared.Wired.{Wired}
use Rattle.board.specs.Length.{upper, span}
use Rattle.board.specs.Placement.{Placement, bottom, placement_at}
use Rattle.layout.specs.Tree.{Wire, wire}
use Rattle.layout.specs.LayoutText.{line_text}
use Rattle.layout.specs.ReadBack.{read_line}
use Rattle.layout.specs.Drawing.{wire_of}
use Rattle.layoutforms.specs.declared.rows.ColumnRows.{ColumnRows}
use Rattle.drc.specs.Covers.{drawn_of}

-- a placement on a track without its net, if there is one
unfoldable pub place_of : Track → Option Placement → Option Wired
place_of t = option_map (λ p. record { track = t; top = record { 0 = p.top }; shape = p.shape })

-- the one place on a track where points can draw a net, from the rows of the first and of the last point in the wire column
unfoldable pub only_place : Net → Track → Option ColumnRows → Wired
only_place n t None = record { track = t; top = record { 0 = upper n }; shape = Plain }
only_place n t (Some rows) =
    record { track = t; top = record { 0 = min rows.first rows.last }; shape = Stretched (max rows.first rows.last - min rows.first rows.last - span n) }

-- the text, without its byte 10, of the wire of a net on a board, where it stands
unfoldable pub wire_text : Board → Net → Wired → List ℕ
wire_text board n p = line_text (wire (wire_of board p.track.0 (placement_at n p.shape p.top.0)))

-- a net stands on a track of the board, and ends on the board
pub record OnBoard (n : BoardNet) (p : Wired) : Type 0 where
  pub track_range : (1 ≤ p.track.0) × (p.track.0 ≤ n.board.tracks)
  pub to_last : bottom (placement_at n.net p.shape p.top.0) ≤ n.board.rows

-- the answer is the placement of the net that the wire draws on the track, whenever the line is that of a wire with the net's number
abbrev pub DrawnIn : List ℕ → Board → Net → Track → Option Wired → Type 0
DrawnIn s board n t r = (w : Wire) → read_line s ≡ Some (wire w) → w.number ≡ n.number → r ≡ place_of t (drawn_of board t.0 w.points n)
