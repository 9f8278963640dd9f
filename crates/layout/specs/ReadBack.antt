-- Reading a text back: a text is a layout exactly if it is the text of a tree with numbers of at most six digits.
use Rattle.std.specs.Prelude.{Bool, true, cond, ◌&&◌, List, [], ◌∷◌, map, ℕ, get_or, drop, ltb, Option, None, Some}
use Rattle.text.specs.Bytes.{same, pieces, non_empty, lines, ends_word}
use Rattle.text.specs.Digits.{value_from}
use Rattle.keywords.specs.Keywords.{layout_word, track_word, wire_word, loose_word}
use Rattle.layout.specs.Tree.{Point, Wire, DrawnTrack, Layout, Line, opens, track, wire, loose, closes}
use Rattle.layout.specs.LayoutText.{line_text, layout_lines, layout_text}

-- Reading. A line is taken apart by its words alone, whatever stands between them; what was read counts only if its rendering is the text.

-- the words of a line: what stands between spaces and brackets
unfoldable pub words_in : List ℕ → List (List ℕ)
words_in s = non_empty (pieces ends_word s)

-- points from their numbers, two by two
unfoldable pub points_of : List ℕ → List Point
points_of [] = []
points_of (c ∷ []) = []
points_of (c ∷ r ∷ ns) = record { column = c; row = r } ∷ points_of ns

-- the line that a word and numbers make
unfoldable pub line_from : List ℕ → List ℕ → Line
line_from w ns =
    cond (same w layout_word) opens
    (cond (same w track_word) (track (get_or ns 0 0) (get_or ns 1 0))
    (cond (same w wire_word) (wire (record { number = get_or ns 0 0; points = points_of (drop 1 ns) }))
    (cond (same w loose_word) (loose (get_or ns 0 0)) closes)))

-- what the words of a line say, whatever stands between them
unfoldable pub rough_line : List ℕ → Line
rough_line s = let ws = words_in s in line_from (get_or ws 0 []) (map (value_from 0) (drop 1 ws))

-- what a list of lines holds: wires before the first track, tracks, loose nets
pub record Part : Type 0 where
  pub wires : List Wire
  pub tracks : List DrawnTrack
  pub loose : List ℕ

-- one line put before those gathered
unfoldable pub add : Line → Part → Part
add opens p = p
add (track t n) p = record { wires = []; tracks = record { track = t; sum = n; wires = p.wires } ∷ p.tracks; loose = p.loose }
add (wire w) p = record { wires = w ∷ p.wires; tracks = p.tracks; loose = p.loose }
add (loose n) p = record { wires = p.wires; tracks = p.tracks; loose = n ∷ p.loose }
add closes p = p

-- what lines hold
unfoldable pub gathered : List Line → Part
gathered [] = record { wires = []; tracks = []; loose = [] }
gathered (x ∷ xs) = add x (gathered xs)

-- what the lines of a text say
unfoldable pub rough_layout : List ℕ → Layout
rough_layout s = let p = gathered (map rough_line (lines s)) in record { tracks = p.tracks; loose = p.loose }

-- the number has at most six digits
abbrev pub is_small : ℕ → Bool
is_small n = ltb n 1000000

-- the numbers of points have at most six digits
unfoldable pub small_points : List Point → Bool
small_points [] = true
small_points (p ∷ ps) = is_small p.column && is_small p.row && small_points ps

-- the numbers of a line have at most six digits
unfoldable pub small_line : Line → Bool
small_line opens = true
small_line (track t n) = is_small t && is_small n
small_line (wire w) = is_small w.number && small_points w.points
small_line (loose n) = is_small n
small_line closes = true

-- the numbers of all lines have at most six digits
unfoldable pub small_lines : List Line → Bool
small_lines [] = true
small_lines (x ∷ xs) = small_line x && small_lines xs

-- the line that a text (without byte 10) is, if it is one
unfoldable pub read_line : List ℕ → Option Line
read_line s = let x = rough_line s in cond (same (line_text x) s && small_line x) (Some x) None

-- the layout that a text is, if it is one
unfoldable pub read_layout : List ℕ → Option Layout
read_layout s = let l = rough_layout s in cond (same (layout_text l) s && small_lines (layout_lines l)) (Some l) None
