-- Lines of a layout and lines that are none, with the form of each. Document 01, "Drawing": inner lines begin with one space; otherwise
-- single spaces, numbers of one to six digits, no leading zeros.
use Rattle.std.specs.Prelude.{◌≡◌, List, [], ◌∷◌, ℕ, Option, None, Some}
use Rattle.text.specs.Bytes.{bytes}
use Rattle.layout.specs.ReadBack.{read_line}
use Rattle.layoutforms.specs.LayoutForms.{layout_form_of}
use Rattle.layoutforms.specs.declared.LayoutForm.{LayoutForm}
use Rattle.layoutforms.specs.declared.LayoutForm.TheVariants.{Opening, Track, Wire, Loose, Closing}

-- a line and its form
pub record FormCase : Type 0 where
  pub line : List ℕ
  pub form : Option LayoutForm

-- the line has the form
abbrev pub HasForm : FormCase → Type 0
HasForm x = layout_form_of (read_line x.line) ≡ x.form

-- of the form: any number of points, none included, and 0 as a number
abbrev pub formed_lines : List FormCase
formed_lines =
    record { line = bytes "(layout"; form = Some Opening } ∷
    record { line = bytes ")"; form = Some Closing } ∷
    record { line = bytes " (track 128 511488)"; form = Some (Track 128 511488) } ∷
    record { line = bytes " (wire 7)"; form = Some (Wire 7) } ∷
    record { line = bytes " (wire 7 (0 2))"; form = Some (Wire 7) } ∷
    record { line = bytes " (wire 1 (0 2) (1 2) (1 4) (5 4))"; form = Some (Wire 1) } ∷
    record { line = bytes " (loose 0)"; form = Some (Loose 0) } ∷ []

-- not of the form: a leading zero, a seventh digit, a second space, a bracket missing, text left over, a space missing or too many
abbrev pub other_lines : List FormCase
other_lines =
    record { line = []; form = None } ∷
    record { line = bytes " (loose 07)"; form = None } ∷
    record { line = bytes " (loose 1000000)"; form = None } ∷
    record { line = bytes " (loose  7)"; form = None } ∷
    record { line = bytes "  (loose 7)"; form = None } ∷
    record { line = bytes "(loose 7)"; form = None } ∷
    record { line = bytes " (loose 7) "; form = None } ∷
    record { line = bytes " (loose 7"; form = None } ∷
    record { line = bytes " (wire 7 (0 2)"; form = None } ∷
    record { line = bytes " (wire 7 0 2))"; form = None } ∷
    record { line = bytes " (wire 7(0 2))"; form = None } ∷
    record { line = bytes " (wire 7 (0 02))"; form = None } ∷
    record { line = bytes " (track 1)"; form = None } ∷
    record { line = bytes " (tracks 1 2)"; form = None } ∷
    record { line = bytes " (layout"; form = None } ∷
    record { line = bytes "(layout "; form = None } ∷
    record { line = bytes " )"; form = None } ∷ []
