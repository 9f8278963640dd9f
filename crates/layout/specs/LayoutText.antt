-- Document 01, "Drawing": the one exact text of a layout. Inner lines begin with one space; otherwise single spaces, numbers without
-- leading zeros, byte 10 after each line.
use Rattle.std.specs.Prelude.{List, [], ◌∷◌, ◌++◌, ℕ}
use Rattle.text.specs.Digits.{digits}
use Rattle.keywords.specs.Keywords.{layout_word, track_word, wire_word, loose_word}
use Rattle.layout.specs.Tree.{Point, Wire, DrawnTrack, Layout, Line, opens, track, wire, loose, closes}

-- each point as " (column row)", then the rest
unfoldable pub points_then : List Point → List ℕ → List ℕ
points_then [] rest = rest
points_then (p ∷ ps) rest = 32 ∷ 40 ∷ (digits p.column ++ 32 ∷ (digits p.row ++ 41 ∷ points_then ps rest))

-- a line without its byte 10
unfoldable pub line_text : Line → List ℕ
line_text opens = 40 ∷ layout_word
line_text (track t n) = 32 ∷ 40 ∷ (track_word ++ 32 ∷ (digits t ++ 32 ∷ (digits n ++ 41 ∷ [])))
line_text (wire w) = 32 ∷ 40 ∷ (wire_word ++ 32 ∷ (digits w.number ++ points_then w.points (41 ∷ [])))
line_text (loose n) = 32 ∷ 40 ∷ (loose_word ++ 32 ∷ (digits n ++ 41 ∷ []))
line_text closes = 41 ∷ []

-- lines, each with its byte 10
unfoldable pub lines_text : List Line → List ℕ
lines_text [] = []
lines_text (x ∷ xs) = line_text x ++ 10 ∷ lines_text xs

-- the lines of wires, then the rest
unfoldable pub wires_then : List Wire → List Line → List Line
wires_then [] rest = rest
wires_then (w ∷ ws) rest = wire w ∷ wires_then ws rest

-- the lines of tracks with their wires, then the rest
unfoldable pub tracks_then : List DrawnTrack → List Line → List Line
tracks_then [] rest = rest
tracks_then (t ∷ ts) rest = track t.track t.sum ∷ wires_then t.wires (tracks_then ts rest)

-- the lines of loose nets, then the rest
unfoldable pub loose_then : List ℕ → List Line → List Line
loose_then [] rest = rest
loose_then (n ∷ ns) rest = loose n ∷ loose_then ns rest

-- the lines of a layout
unfoldable pub layout_lines : Layout → List Line
layout_lines l = opens ∷ tracks_then l.tracks (loose_then l.loose (closes ∷ []))

-- the text of a layout: its one rendering
unfoldable pub layout_text : Layout → List ℕ
layout_text l = lines_text (layout_lines l)
