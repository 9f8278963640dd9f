-- What the code's answer for a line says of the line that was read back.
use Rattle.std.specs.Prelude.{Option, option_map}
use Rattle.layout.specs.Tree.{Line, opens, track, wire, loose, closes}
use Rattle.layoutforms.specs.declared.LayoutForm.{LayoutForm}
use Rattle.layoutforms.specs.declared.LayoutForm.TheVariants.{Opening, Track, Wire, Loose, Closing}

-- a line without the points of its wire
unfoldable pub line_form : Line → LayoutForm
line_form opens = Opening
line_form (track t n) = Track t n
line_form (wire w) = Wire w.number
line_form (loose n) = Loose n
line_form closes = Closing

-- the same where a text is a line of a layout; any other text has no form
unfoldable pub layout_form_of : Option Line → Option LayoutForm
layout_form_of = option_map line_form
