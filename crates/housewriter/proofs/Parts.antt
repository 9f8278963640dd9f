-- The fixed text of a job is its parts one behind another, line by line. Assumes nothing.
use Prim.Native.Nat.{ℕ, ◌+◌, ◌≤◌, ◌<◌}
use mathlib.Core.Path.{◌≡◌, refl, sym, ap, ◌∙◌}
use mathlib.Core.List.{List, [], ◌∷◌, ◌++◌, map, append_assoc}
use native.Mathlib.Numerals.{add-one}
use lib.ListN.{length, get_or, drop, drop_of_length-le}
use lib.Seq.{drop-cons}
use Rattle.keywords.specs.Keywords.{board_word, rows_word, tracks_word, word_of}
use Rattle.linewriter.specs.LineText.{opening_text}
use Rattle.keywords.specs.declared.Vocabulary.TheVariants.{Job}
use Rattle.board.specs.declared.Board.{Board}
use Rattle.board.specs.Job as model
use Rattle.house.specs.Blocks.{sort_blocks}
use Rattle.house.specs.HouseText.{opening_line, inner_line, closing_line, net_line, block_line, house_lines, ended_lines, house_text}
use Rattle.joblines.specs.Lines.{ended}
use Rattle.housewriter.specs.Parts.{top_text, lines_text, nets_text, blocks_text}

pub top_parts : (board : Board) → top_text board ≡ opening_text Job ++ (ended (inner_line (word_of Job 1) (board.rows ∷ [])) ++ ended (inner_line (word_of Job 2) (board.tracks ∷ [])))
unfolding top_text opening_line opening_text word_of
top_parts board = refl

-- a line more
one_ended : (l : List ℕ) (ls : List (List ℕ)) → ended_lines (l ∷ ls) ≡ ended l ++ ended_lines ls
unfolding ended_lines
one_ended l ls = sym (append_assoc l (10 ∷ []) (ended_lines ls))

lines_ended : {A : Type 0} (line : A → List ℕ) (xs : List A) (ls : List (List ℕ)) → ended_lines (map line xs ++ ls) ≡ lines_text line xs ++ ended_lines ls
unfolding lines_text
lines_ended line [] ls = refl
lines_ended line (x ∷ xs) ls =
    one_ended (line x) (map line xs ++ ls) ∙ ap (λ l. ended (line x) ++ l) (lines_ended line xs ls) ∙ sym (append_assoc (ended (line x)) (lines_text line xs) (ended_lines ls))

last_ended : ended_lines (closing_line ∷ []) ≡ ended closing_line
unfolding ended_lines
last_ended = refl

pub house_parts : (job : model.Job) → house_text job ≡
    top_text job.board ++ (nets_text job.board job.nets ++ (blocks_text (sort_blocks job.blocks) ++ ended closing_line))
unfolding house_text house_lines top_text
house_parts job =
    let ls = closing_line ∷ [] in
    let bs = map block_line (sort_blocks job.blocks) ++ ls in
    let ns = map (net_line job.board) job.nets ++ bs in
    let rows = inner_line rows_word (job.board.rows ∷ []) in
    let tracks = inner_line tracks_word (job.board.tracks ∷ []) in
    let behind = nets_text job.board job.nets ++ (blocks_text (sort_blocks job.blocks) ++ ended closing_line) in
    let tail : ended_lines ns ≡ behind =
    lines_ended (net_line job.board) job.nets bs ∙ ap (λ l. nets_text job.board job.nets ++ l) (lines_ended block_line (sort_blocks job.blocks) ls ∙ ap (λ l. blocks_text (sort_blocks job.blocks) ++ l) last_ended) in
    one_ended (opening_line board_word) (rows ∷ tracks ∷ ns) ∙
    ap (λ l. ended (opening_line board_word) ++ l) (one_ended rows (tracks ∷ ns) ∙ ap (λ l. ended rows ++ l) (one_ended tracks ns ∙ ap (λ l. ended tracks ++ l) tail)) ∙
    three (ended (opening_line board_word)) (ended rows) (ended tracks) behind
  where
    three : (a b c d : List ℕ) → a ++ (b ++ (c ++ d)) ≡ (a ++ (b ++ c)) ++ d
    three a b c d = simp append_assoc

-- ---- records one by one

-- those from place i on begin with the line of the one there
pub lines_step : {A : Type 0} (line : A → List ℕ) (xs : List A) (i : ℕ) (d : A) → i < length xs →
    lines_text line (drop i xs) ≡ ended (line (get_or xs i d)) ++ lines_text line (drop (i + 1) xs)
unfolding lines_text
lines_step line xs i d h = ap (lines_text line) (drop-cons xs i d h) ∙ ap (λ k. ended (line (get_or xs i d)) ++ lines_text line (drop k xs)) (sym (add-one i))

-- behind the last there is none
pub lines_last : {A : Type 0} (line : A → List ℕ) (xs : List A) (i : ℕ) → length xs ≤ i → lines_text line (drop i xs) ≡ []
unfolding lines_text
lines_last line xs i h = rw (drop_of_length-le xs {i = i} h)
