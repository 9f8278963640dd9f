-- The fixed text of a job in the parts that are written one after another.
use Rattle.std.specs.Prelude.{ℕ, List, [], ◌∷◌, ◌++◌}
use Rattle.keywords.specs.Keywords.{board_word, rows_word, tracks_word}
use Rattle.board.specs.declared.Board.{Board}
use Rattle.board.specs.declared.Net.{Net}
use Rattle.board.specs.declared.Block.{Block}
use Rattle.house.specs.HouseText.{opening_line, inner_line, net_line, block_line}
use Rattle.joblines.specs.Lines.{ended}

-- the lines of the board
unfoldable pub top_text : Board → List ℕ
top_text board = ended (opening_line board_word) ++ (ended (inner_line rows_word (board.rows ∷ [])) ++ ended (inner_line tracks_word (board.tracks ∷ [])))

-- the lines of records, one behind another
unfoldable pub lines_text : {A : Type 0} → (A → List ℕ) → List A → List ℕ
lines_text line [] = []
lines_text line (x ∷ xs) = ended (line x) ++ lines_text line xs

-- the lines of nets
abbrev pub nets_text : Board → List Net → List ℕ
nets_text board = lines_text (net_line board)

-- the lines of blocks
abbrev pub blocks_text : List Block → List ℕ
blocks_text = lines_text block_line
