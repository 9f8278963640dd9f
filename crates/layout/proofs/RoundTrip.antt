-- The text of a layout, read back, is the layout; and what is read has that text, so a text is of one layout at most. Assumes nothing.
use mathlib.Core.Path.{◌≡◌, refl, sym, ap, ◌∙◌}
use mathlib.Core.Bool.{Bool, true, false, cond, not, ◌&&◌}
use mathlib.Core.List.{List, [], ◌∷◌, ◌++◌, map}
use Rattle.std.specs.Prelude.{None, Some}
use Prim.Native.Nat.{ℕ, ◌+◌, ◌<◌}
use native.Mathlib.Omega.{arith}
use lib.ListN.{get_or, drop}
use borrow.Author.Tests.{ne_eqb}
use Rattle.lists.specs.Lists.{all_of}
use Rattle.lists.proofs.Cases.{and_split}
use Rattle.text.specs.Bytes.{same, joined, pieces, non_empty, lines, is_end, ends_word}
use Rattle.text.specs.Digits.{digits, value_from}
use Rattle.lists.proofs.Joins.{all_of_append}
use Rattle.text.proofs.Bytes.{same_refl, same_true, piece_then, non_empty_some}
use Rattle.text.proofs.Numbers.{all_of_digits, some_digits, value_digits}
use Rattle.keywords.specs.Keywords.{layout_word, track_word, wire_word, loose_word}
use Rattle.layout.specs.Tree.{Point, Wire, DrawnTrack, Layout, Line, opens, track, wire, loose, closes}
use Rattle.layout.specs.LayoutText.{points_then, line_text, lines_text, wires_then, tracks_then, loose_then, layout_lines, layout_text}
use Rattle.layout.specs.ReadBack.{words_in, points_of, line_from, rough_line, Part, add, gathered, rough_layout, small_line, small_lines, read_line, read_layout}

-- no line holds a byte 10

unfoldable pub plain : ℕ → Bool
plain b = not (is_end b)

plain_digit : (d : ℕ) → d < 10 → plain (48 + d) ≡ true
unfolding plain
plain_digit d h = rw (ne_eqb (48 + d) 10 (λ e. omega arith))

plain_then : (n : ℕ) (rest : List ℕ) → all_of plain (digits n ++ rest) ≡ all_of plain rest
plain_then n rest = rw (all_of_append, all_of_digits plain plain_digit n)

pub plain_points : (ps : List Point) (rest : List ℕ) → all_of plain (points_then ps rest) ≡ all_of plain rest
unfolding all_of points_then plain
plain_points [] rest = refl
plain_points (p ∷ ps) rest = rw (plain_then p.column, plain_then p.row, plain_points ps rest)

pub plain_line : (x : Line) → all_of plain (line_text x) ≡ true
unfolding all_of line_text plain
plain_line opens = refl
plain_line (track t n) = rw (plain_then t, plain_then n)
plain_line (wire w) = rw (plain_then w.number, plain_points w.points)
plain_line (loose n) = rw (plain_then n)
plain_line closes = refl

pub lines_text_lem : (xs : List Line) → lines (lines_text xs) ≡ map line_text xs
unfolding lines_text pieces
lines_text_lem [] = refl
lines_text_lem (x ∷ xs) = piece_then is_end (line_text x) 10 (lines_text xs) (unfold plain in plain_line x) refl ∙ ap (λ (ls : List (List ℕ)). line_text x ∷ ls) (lines_text_lem xs)

-- the words of a line are its keyword and its numbers

inner : ℕ → Bool
inner b = not (ends_word b)

inner_digit : (d : ℕ) → d < 10 → inner (48 + d) ≡ true
unfolding inner
inner_digit d h = rw (ne_eqb (48 + d) 32 (λ e. omega arith), ne_eqb (48 + d) 40 (λ e. omega arith), ne_eqb (48 + d) 41 (λ e. omega arith))

-- no byte of a number ends a word
pub digits_inner : (n : ℕ) → all_of (λ b. not (ends_word b)) (digits n) ≡ true
unfolding inner
digits_inner n = all_of_digits inner inner_digit n

word_then : (n c : ℕ) (rest : List ℕ) → ends_word c ≡ true → words_in (digits n ++ c ∷ rest) ≡ digits n ∷ words_in rest
unfolding words_in
word_then n c rest e =
    ap non_empty (piece_then ends_word (digits n) c rest (digits_inner n) e)
    ∙ non_empty_some (digits n) (pieces ends_word rest) (some_digits n)

point_words : List Point → List (List ℕ)
point_words [] = []
point_words (p ∷ ps) = digits p.column ∷ digits p.row ∷ point_words ps

-- the words of a text that begins with a point are its two numbers, and those of the rest
pub words_point : (p : Point) (rest : List ℕ) →
    words_in (32 ∷ 40 ∷ (digits p.column ++ 32 ∷ (digits p.row ++ 41 ∷ rest))) ≡ digits p.column ∷ digits p.row ∷ words_in rest
unfolding words_in pieces non_empty joined
words_point p rest =
    word_then p.column 32 (digits p.row ++ 41 ∷ rest) refl
    ∙ ap (λ (ws : List (List ℕ)). digits p.column ∷ ws) (word_then p.row 41 rest refl)

words_points : (ps : List Point) → words_in (points_then ps (41 ∷ [])) ≡ point_words ps
unfolding points_then words_in pieces non_empty joined point_words
words_points [] = refl
words_points (p ∷ ps) =
    words_point p (points_then ps (41 ∷ []))
    ∙ ap (λ (ws : List (List ℕ)). digits p.column ∷ digits p.row ∷ ws) (words_points ps)

-- where points follow a number, its digits end at their first byte
after_number : (n : ℕ) (ps : List Point) → words_in (digits n ++ points_then ps (41 ∷ [])) ≡ digits n ∷ point_words ps
unfolding points_then words_in pieces non_empty joined point_words
after_number n [] = word_then n 41 [] refl
after_number n (p ∷ ps) =
    word_then n 32 (40 ∷ (digits p.column ++ 32 ∷ (digits p.row ++ 41 ∷ points_then ps (41 ∷ [])))) refl
    ∙ ap (λ (ws : List (List ℕ)). digits n ∷ ws) (words_points (p ∷ ps))

points_back : (ps : List Point) → points_of (map (value_from 0) (point_words ps)) ≡ ps
unfolding points_of point_words
points_back [] = refl
points_back (p ∷ ps) = rw (value_digits p.column, value_digits p.row, points_back ps)

-- points, written and read, are the points
pub points_read : (ps : List Point) → points_of (map (value_from 0) (words_in (points_then ps (41 ∷ [])))) ≡ ps
points_read ps = ap (λ (ws : List (List ℕ)). points_of (map (value_from 0) ws)) (words_points ps) ∙ points_back ps

-- a line's text, read, is the line

written_words : Line → List (List ℕ)
written_words opens = layout_word ∷ []
written_words (track t n) = track_word ∷ digits t ∷ digits n ∷ []
written_words (wire w) = wire_word ∷ digits w.number ∷ point_words w.points
written_words (loose n) = loose_word ∷ digits n ∷ []
written_words closes = []

words_line : (x : Line) → words_in (line_text x) ≡ written_words x
unfolding line_text words_in pieces non_empty joined written_words
words_line opens = refl
words_line (track t n) =
    ap (λ (ws : List (List ℕ)). track_word ∷ ws)
    (word_then t 32 (digits n ++ 41 ∷ []) refl ∙ ap (λ (ws : List (List ℕ)). digits t ∷ ws) (word_then n 41 [] refl))
words_line (wire w) = ap (λ (ws : List (List ℕ)). wire_word ∷ ws) (after_number w.number w.points)
words_line (loose n) = ap (λ (ws : List (List ℕ)). loose_word ∷ ws) (word_then n 41 [] refl)
words_line closes = refl

of_words : List (List ℕ) → Line
of_words ws = line_from (get_or ws 0 []) (map (value_from 0) (drop 1 ws))

of_written_words : (x : Line) → of_words (written_words x) ≡ x
unfolding of_words written_words line_from same
of_written_words opens = refl
of_written_words (track t n) = rw (value_digits t, value_digits n)
of_written_words (wire w) = rw (value_digits w.number, points_back w.points)
of_written_words (loose n) = rw (value_digits n)
of_written_words closes = refl

pub rough_line_lem : (x : Line) → rough_line (line_text x) ≡ x
unfolding rough_line of_words
rough_line_lem x = ap of_words (words_line x) ∙ of_written_words x

pub read_line_lem : (x : Line) → small_line x ≡ true → read_line (line_text x) ≡ Some x
unfolding read_line
read_line_lem x h = rw (rough_line_lem x, same_refl (line_text x), h)

-- lines, gathered, are the layout they came from

map_back : (xs : List Line) → map rough_line (map line_text xs) ≡ xs
map_back [] = refl
map_back (x ∷ xs) = rw (rough_line_lem x, map_back xs)

abbrev part : List Wire → List DrawnTrack → List ℕ → Part
part ws ts ns = record { wires = ws; tracks = ts; loose = ns }

gather_wires : (ws : List Wire) (ts : List DrawnTrack) (ns : List ℕ) (rest : List Line) → gathered rest ≡ part [] ts ns → gathered (wires_then ws rest) ≡ part ws ts ns
unfolding gathered add wires_then
gather_wires [] ts ns rest e = e
gather_wires (w ∷ ws) ts ns rest e = rw (gather_wires ws ts ns rest e)

gather_loose : (ns : List ℕ) → gathered (loose_then ns (closes ∷ [])) ≡ part [] [] ns
unfolding gathered add loose_then
gather_loose [] = refl
gather_loose (n ∷ ns) = rw (gather_loose ns)

gather_tracks : (ts : List DrawnTrack) (ns : List ℕ) → gathered (tracks_then ts (loose_then ns (closes ∷ []))) ≡ part [] ts ns
unfolding gathered add tracks_then
gather_tracks [] ns = gather_loose ns
gather_tracks (t ∷ ts) ns = rw (gather_wires t.wires ts ns (tracks_then ts (loose_then ns (closes ∷ []))) (gather_tracks ts ns))

gather_layout : (l : Layout) → gathered (layout_lines l) ≡ part [] l.tracks l.loose
unfolding layout_lines gathered add
gather_layout l = gather_tracks l.tracks l.loose

-- the round trip

pub rough_layout_lem : (l : Layout) → rough_layout (layout_text l) ≡ l
unfolding rough_layout layout_text
rough_layout_lem l = rw (lines_text_lem (layout_lines l), map_back (layout_lines l), gather_layout l)

pub read_layout_lem : (l : Layout) → small_lines (layout_lines l) ≡ true → read_layout (layout_text l) ≡ Some l
unfolding read_layout
read_layout_lem l h = rw (rough_layout_lem l, same_refl (layout_text l), h)

-- what is read is its text, so a text is of one layout at most

pub only_some : {A : Type 0} (t : Bool) (x y : A) → cond t (Some x) None ≡ Some y → (t ≡ true) × (x ≡ y)
only_some true x y e = (refl, cc)
only_some false x y e = (cc, cc)

-- a line that is read has its text, and its numbers have at most six digits
pub read_line_sound : (s : List ℕ) (x : Line) → read_line s ≡ Some x → (s ≡ line_text x) × (small_line x ≡ true)
unfolding read_line
read_line_sound s x e =
    let r = rough_line s in
    let h = only_some (same (line_text r) s && small_line r) r x e in
    let k = and_split (same (line_text r) s) (small_line r) h.0 in
    (sym (same_true (line_text r) s k.0) ∙ ap line_text h.1, ap small_line (sym h.1) ∙ k.1)

pub read_layout_sound : (s : List ℕ) (l : Layout) → read_layout s ≡ Some l → s ≡ layout_text l
unfolding read_layout
read_layout_sound s l e =
    let r = rough_layout s in
    let h = only_some (same (layout_text r) s && small_lines (layout_lines r)) r l e in
    let k = and_split (same (layout_text r) s) (small_lines (layout_lines r)) h.0 in
    sym (same_true (layout_text r) s k.0) ∙ ap layout_text h.1

pub layout_text_injective : (l m : Layout) → layout_text l ≡ layout_text m → l ≡ m
layout_text_injective l m e = sym (rough_layout_lem l) ∙ ap rough_layout e ∙ rough_layout_lem m
