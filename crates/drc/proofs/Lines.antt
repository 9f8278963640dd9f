-- The lines of a rendered text are read as they were written, and a text whose lines are all of the form is their rendering. Assumes nothing.
use Prim.Native.Nat.{ℕ, ◌≤◌}
use mathlib.Core.Path.{◌≡◌, refl, sym, ap, ap₂, ◌∙◌}
use mathlib.Core.Bool.{Bool, true, false, ◌&&◌}
use Rattle.std.specs.Prelude.{Option, None, Some}
use mathlib.Core.List.{List, [], ◌∷◌, ◌++◌, map, append_assoc, append-nil}
use native.Mathlib.Omega.{arith}
use lib.ListN.{length}
use borrow.Author.Tests.{not-true, eqb-true}
use Rattle.lists.specs.Lists.{all_of}
use Rattle.lists.proofs.Cases.{by_test, and_split}
use Rattle.lists.proofs.Joins.{all_of_append}
use Rattle.text.specs.Bytes.{same, is_end, joined, pieces, lines}
use Rattle.text.proofs.Bytes.{same_true, piece_then, piece_last}
use Rattle.layout.specs.Tree.{Line}
use Rattle.layout.specs.LayoutText.{line_text, lines_text}
use Rattle.layout.specs.ReadBack.{rough_line, small_line, small_lines, read_line}
use Rattle.layout.proofs.RoundTrip.{plain, plain_line, read_line_lem, only_some}
use Rattle.drc.specs.Standing.{is_ended, read_each, lines_read}

-- ---- a line that byte 10 ends, and a last one without it

read_joined : (ended : Bool) (w : List ℕ) (b : ℕ) (ps : List (List ℕ)) → read_each ended (w ∷ joined b ps) ≡ read_line w ∷ read_each ended (joined b ps)
unfolding read_each joined
read_joined ended w b [] = refl
read_joined ended w b (p ∷ ps) = refl

read_above : (ended : Bool) (w : List ℕ) (b : ℕ) (bs : List ℕ) → read_each ended (w ∷ lines (b ∷ bs)) ≡ read_line w ∷ read_each ended (lines (b ∷ bs))
unfolding read_each pieces
read_above ended w b bs = by_test (is_end b) (λ e. rw e) (λ e. rw e (read_joined ended w b (lines bs)))

read_rest : (w rest : List ℕ) → read_each (is_ended (10 ∷ rest)) (w ∷ lines rest) ≡ read_line w ∷ lines_read rest
unfolding lines_read is_ended read_each pieces
read_rest w [] = refl
read_rest w (b ∷ bs) = read_above (is_ended (b ∷ bs)) w b bs

ended_rest : (w rest : List ℕ) → is_ended (w ++ 10 ∷ rest) ≡ is_ended (10 ∷ rest)
unfolding is_ended
ended_rest [] rest = refl
ended_rest (b ∷ []) rest = refl
ended_rest (b ∷ c ∷ w) rest = ended_rest (c ∷ w) rest

-- the first line of a text, where byte 10 ends it
pub line_then : (w rest : List ℕ) → all_of plain w ≡ true → lines_read (w ++ 10 ∷ rest) ≡ read_line w ∷ lines_read rest
unfolding lines_read
line_then w rest h =
    ap₂ read_each (ended_rest w rest) (piece_then is_end w 10 rest (unfold plain in h) refl) ∙ read_rest w rest

not_ended : (w : List ℕ) → all_of plain w ≡ true → 1 ≤ length w → is_ended w ≡ false
unfolding is_ended all_of plain
not_ended [] h l = absurd (omega arith)
not_ended (b ∷ []) h l = not-true (is_end b) (and_split (plain b) true h).0
not_ended (b ∷ c ∷ w) h l = not_ended (c ∷ w) (and_split (plain b) (all_of plain (c ∷ w)) h).1 (omega arith)

-- a last line without byte 10 is not of the form
pub line_open : (w : List ℕ) → all_of plain w ≡ true → 1 ≤ length w → lines_read w ≡ None ∷ []
unfolding lines_read read_each
line_open w h l = rw (not_ended w h l, piece_last is_end w (unfold plain in h) l)

-- ---- rendered lines

-- lines that are all of the form
abbrev pub of_form : List Line → List (Option Line)
of_form xs = map (λ x. Some x) xs

pub lines_of_text : (xs : List Line) → small_lines xs ≡ true → lines_read (lines_text xs) ≡ of_form xs
unfolding lines_text small_lines lines_read is_ended read_each pieces
lines_of_text [] h = refl
lines_of_text (x ∷ xs) h =
    let s = and_split (small_line x) (small_lines xs) h in
    line_then (line_text x) (lines_text xs) (plain_line x) ∙ ap₂ (λ y ys. y ∷ ys) (read_line_lem x s.0) (lines_of_text xs s.1)

read_text : (s : List ℕ) (x : Line) → read_line s ≡ Some x → s ≡ line_text x
unfolding read_line
read_text s x h =
    let o = only_some (same (line_text (rough_line s)) s && small_line (rough_line s)) (rough_line s) x h in
    let t = and_split (same (line_text (rough_line s)) s) (small_line (rough_line s)) o.0 in
    sym (same_true (line_text (rough_line s)) s t.0) ∙ ap line_text o.1

first_rendered : (w rest : List ℕ) (xs : List Line) → ◌≡◌ {A = List (Option Line)} (read_line w ∷ lines_read rest) (of_form xs) →
    ((ys : List Line) → lines_read rest ≡ of_form ys → rest ≡ lines_text ys) → w ++ 10 ∷ rest ≡ lines_text xs
unfolding lines_text
first_rendered w rest [] h f = cc
first_rendered w rest (x ∷ xs) h f =
    let first : read_line w ≡ Some x = cc in
    let others : lines_read rest ≡ of_form xs = cc in
    rw (read_text w x first, f xs others)

open_rendered : (xs : List Line) → None ∷ [] ≡ of_form xs → {w : List ℕ} → w ≡ lines_text xs
open_rendered [] h = cc
open_rendered (x ∷ xs) h = cc

-- a text of which the bytes w are known to hold no byte 10
text_of : (w text : List ℕ) (xs : List Line) → all_of plain w ≡ true → lines_read (w ++ text) ≡ of_form xs → w ++ text ≡ lines_text xs
unfolding lines_text lines_read is_ended read_each pieces
text_of [] [] [] p h = refl
text_of [] [] (x ∷ xs) p h = cc
text_of (c ∷ w) [] xs p h =
    let e : (c ∷ w) ++ [] ≡ c ∷ w = append-nil (c ∷ w) in
    rw e (open_rendered xs (sym (line_open (c ∷ w) p (omega arith)) ∙ ap lines_read (sym e) ∙ h))
text_of w (b ∷ bs) xs p h =
    by_test (is_end b)
    (λ e.
    let ten : b ≡ 10 = eqb-true b 10 e in
    let h' : lines_read (w ++ 10 ∷ bs) ≡ of_form xs = rw ten at h in
    rw ten (first_rendered w bs xs (sym (line_then w bs p) ∙ h') (λ ys g. text_of [] bs ys (unfold all_of in refl) g)))
    (λ e.
    let more : all_of plain (w ++ (b ∷ [])) ≡ true = rw (all_of_append, p) (unfold plain all_of in (rw e refl)) in
    rw (append_assoc w (b ∷ []) bs) at (text_of (w ++ (b ∷ [])) bs xs more (rw (append_assoc w (b ∷ []) bs) h)))

-- a text whose lines are all of the form is their rendering
pub text_of_lines : (text : List ℕ) (xs : List Line) → lines_read text ≡ of_form xs → text ≡ lines_text xs
text_of_lines text xs h = text_of [] text xs (unfold all_of in refl) h
