-- The words of the two formats by their place in their table. Document 01, "Text of a job": five words open a form.
use Rattle.std.specs.Prelude.{cond, List, [], ◌∷◌, ℕ, suc, get_or, Option, None, Some}
use Rattle.text.specs.Bytes.{bytes, same}
use Rattle.keywords.specs.declared.Vocabulary.{Vocabulary}
use Rattle.keywords.specs.declared.Vocabulary.TheVariants.{Job, Layout}

-- the words, byte by byte

abbrev pub board_word : List ℕ
board_word = bytes "board"

abbrev pub rows_word : List ℕ
rows_word = bytes "rows"

abbrev pub tracks_word : List ℕ
tracks_word = bytes "tracks"

abbrev pub net_word : List ℕ
net_word = bytes "net"

abbrev pub block_word : List ℕ
block_word = bytes "block"

abbrev pub layout_word : List ℕ
layout_word = bytes "layout"

abbrev pub track_word : List ℕ
track_word = bytes "track"

abbrev pub wire_word : List ℕ
wire_word = bytes "wire"

abbrev pub loose_word : List ℕ
loose_word = bytes "loose"

-- the words that open a form of a job, and those that open a line of a layout
abbrev pub words : Vocabulary → List (List ℕ)
words Job = board_word ∷ rows_word ∷ tracks_word ∷ net_word ∷ block_word ∷ []
words Layout = layout_word ∷ track_word ∷ wire_word ∷ loose_word ∷ []

-- the word at place i of its table, counted from 0; empty behind the last
unfoldable pub word_of : Vocabulary → ℕ → List ℕ
word_of v i = get_or (words v) i []

-- the place of the first of these words that is s, where the first of them has place i
unfoldable pub find_from : ℕ → List (List ℕ) → List ℕ → Option ℕ
find_from i [] s = None
find_from i (w ∷ ws) s = let more = find_from (suc i) ws s in cond (same s w) (Some i) more

-- the place of the word s in its table, where it is one of the words
unfoldable pub find_word : Vocabulary → List ℕ → Option ℕ
find_word v s = find_from 0 (words v) s
