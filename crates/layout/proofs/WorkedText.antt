-- The text of the layout that document 01 prints, byte for byte, and its reading. Assumes nothing.
use mathlib.Core.Path.{◌≡◌, refl}
use Rattle.text.specs.Bytes.{bytes}
use Rattle.text.specs.Digits.{digits_in, digits}
use Rattle.layout.specs.LayoutText.{points_then, line_text, lines_text, wires_then, tracks_then, loose_then, layout_lines, layout_text}
use Rattle.layout.specs.WorkedTree.{worked_layout}

-- the layout as a tree has the text that document 01 prints
pub worked_layout_lem : layout_text worked_layout ≡ bytes
    "(layout\n (track 1 9)\n (wire 1 (0 2) (1 2) (1 4) (5 4))\n (wire 2 (0 6) (1 6) (1 5) (2 5) (2 8) (1 8) (5 8))\n (wire 3 (0 9) (1 9) (1 10) (5 10))\n (track 2 2)\n (wire 4 (0 3) (3 3) (3 2) (5 2))\n (loose 5)\n)\n"
unfolding layout_text layout_lines lines_text tracks_then wires_then loose_then line_text points_then digits digits_in
worked_layout_lem = refl
