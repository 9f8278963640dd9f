-- Document 01, "Text of a job": the form that a line is.
use Rattle.std.specs.Prelude.{Bool, true, false, cond, ◌&&◌, List, [], ◌∷◌, ℕ, zero, suc, eqb, length, get_or, Option, None, Some}
use Rattle.text.specs.Bytes.{same}
use Rattle.text.specs.Digits.{number}
use Rattle.keywords.specs.Keywords.{find_word}
use Rattle.keywords.specs.declared.Vocabulary.TheVariants as Words
use Rattle.lines.specs.Tokens.{line_words, opening, closing}
use Rattle.jobfile.specs.declared.Form.{Form}
use Rattle.jobfile.specs.declared.Form.TheVariants.{Blank, Board, Rows, Tracks, Net, Block, Close, Other}

-- no word is left
unfoldable pub no_word : List (List ℕ) → Bool
no_word [] = true
no_word (w ∷ ws) = false

-- x where no word is left; otherwise the line is not of the form
unfoldable pub if_last : List (List ℕ) → Form → Form
if_last ws x = cond (no_word ws) x Other

-- a number before further ones, where all of them are numbers
unfoldable pub cons_number : Option ℕ → Option (List ℕ) → Option (List ℕ)
cons_number None ns = None
cons_number (Some n) None = None
cons_number (Some n) (Some ns) = Some (n ∷ ns)

-- at most k numbers of one to five digits, then a closing bracket and nothing more
unfoldable pub arguments : ℕ → List (List ℕ) → Option (List ℕ)
arguments zero [] = None
arguments zero (w ∷ ws) = cond (same w closing && no_word ws) (Some []) None
arguments (suc k) [] = None
arguments (suc k) (w ∷ ws) = let more = cons_number (number 5 w) (arguments k ws) in cond (same w closing && no_word ws) (Some []) more

-- the form that numbers make, where they are given
unfoldable pub form_from : Option (List ℕ) → (List ℕ → Form) → Form
form_from None f = Other
form_from (Some ns) f = f ns

-- x where there are so many numbers; otherwise the line is not of the form
unfoldable pub if_count : ℕ → List ℕ → Form → Form
if_count k a x = cond (eqb (length a) k) x Other

-- the form that word i of the table makes of numbers: as many as it takes; a net may have a sixth, its weight
unfoldable pub form_made : ℕ → List ℕ → Form
form_made zero a = Other
form_made (suc zero) a = if_count 1 a (Rows (get_or a 0 0))
form_made (suc (suc zero)) a = if_count 1 a (Tracks (get_or a 0 0))
form_made (suc (suc (suc zero))) a =
    cond (eqb (length a) 6) (Net (get_or a 0 0) (get_or a 1 0) (get_or a 2 0) (get_or a 3 0) (get_or a 4 0) (Some (get_or a 5 0)))
    (if_count 5 a (Net (get_or a 0 0) (get_or a 1 0) (get_or a 2 0) (get_or a 3 0) (get_or a 4 0) None))
form_made (suc (suc (suc (suc zero)))) a = if_count 3 a (Block (get_or a 0 0) (get_or a 1 0) (get_or a 2 0))
form_made (suc (suc (suc (suc (suc i))))) a = Other

-- the form that word i of the table opens, with the words behind it
unfoldable pub form_after : ℕ → List (List ℕ) → Form
form_after zero ws = if_last ws Board
form_after (suc i) ws = form_from (arguments 6 ws) (form_made (suc i))

-- the form that a word of the table opens, with the words behind it, where the word was found
unfoldable pub form_found : Option ℕ → List (List ℕ) → Form
form_found None ws = Other
form_found (Some i) ws = form_after i ws

-- the form of the words behind an opening bracket
unfoldable pub form_opened : List (List ℕ) → Form
form_opened [] = Other
form_opened (w ∷ ws) = form_found (find_word Words.Job w) ws

-- the form of the words of a line, each bracket a word of its own
unfoldable pub form_of : List (List ℕ) → Form
form_of [] = Blank
form_of (w ∷ ws) = cond (same w closing) (if_last ws Close) (cond (same w opening) (form_opened ws) Other)

-- the form that a line is
unfoldable pub read_form : List ℕ → Form
read_form s = form_of (line_words s)
