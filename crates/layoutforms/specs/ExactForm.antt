-- The form of a line of a layout, worked out part by part from its first byte on.
use Rattle.std.specs.Prelude.{cond, List, [], ◌∷◌, ℕ, take, drop, eqb, Option, None, Some}
use Rattle.text.specs.Bytes.{same, ends_word}
use Rattle.keywords.specs.Keywords.{word_of, find_word}
use Rattle.keywords.specs.declared.Vocabulary.TheVariants.{Layout}
use Rattle.lines.specs.Places.{until}
use Rattle.layoutforms.specs.Exact.{◌>>=◌, shut_text, behind, spaced_number, is_points}
use Rattle.layoutforms.specs.declared.LayoutForm.{LayoutForm}
use Rattle.layoutforms.specs.declared.LayoutForm.TheVariants.{Opening, Track, Wire, Loose, Closing}

-- a loose net behind its word: its number, and the closing bracket is all that is left
unfoldable pub loose_form : List ℕ → Option LayoutForm
loose_form t = do
  net ← spaced_number t
  cond (same net.1 shut_text) (Some (Loose net.0)) None

-- a wire behind its word: its number, and points and the closing bracket are all that is left
unfoldable pub wire_form : List ℕ → Option LayoutForm
wire_form t = do
  net ← spaced_number t
  cond (is_points net.1) (Some (Wire net.0)) None

-- a track behind its word: its number and its sum, and the closing bracket is all that is left
unfoldable pub track_form : List ℕ → Option LayoutForm
track_form t = do
  track ← spaced_number t
  sum ← spaced_number track.1
  cond (same sum.1 shut_text) (Some (Track track.0 sum.0)) None

-- what stands behind word i of the layout's table
unfoldable pub form_behind : ℕ → List ℕ → Option LayoutForm
form_behind i t =
    cond (eqb i 1) (track_form t)
    (cond (eqb i 2) (wire_form t)
    (cond (eqb i 3) (loose_form t) None))

-- an inner line behind its space: a bracket, the word that ends where a word ends, and what that word asks for
unfoldable pub inner_form : List ℕ → Option LayoutForm
inner_form t = do
  word ← behind 40 t
  i ← find_word Layout (take (until ends_word word) word)
  form_behind i (drop (until ends_word word) word)

-- a line: an inner one, the opening one, the closing one, or none of these
unfoldable pub exact_form : List ℕ → Option LayoutForm
exact_form [] = None
exact_form (b ∷ t) =
    cond (eqb b 32) (inner_form t)
    (cond (eqb b 40) (cond (same t (word_of Layout 0)) (Some Opening) None)
    (cond (same (b ∷ t) shut_text) (Some Closing) None))
