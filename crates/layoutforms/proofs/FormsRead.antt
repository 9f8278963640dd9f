-- What the form of a line says of the line that is read back, for those who go on with the line. Assumes nothing.
use mathlib.Core.Path.{◌≡◌, refl}
use Rattle.std.specs.Prelude.{Option, None, Some}
use Prim.Native.Nat.{ℕ}
use Rattle.layout.specs.Tree.{Line, Wire, opens, track, wire, loose, closes}
use Rattle.layoutforms.specs.LayoutForms.{line_form, layout_form_of}
use Rattle.layoutforms.specs.declared.LayoutForm.{LayoutForm}
use Rattle.layoutforms.specs.declared.LayoutForm.TheVariants as Form

-- a wire with the number of the form
pub record WireLine (o : Option Line) (n : ℕ) : Type 0 where
  pub drawn : Wire
  pub line : o ≡ Some (wire drawn)
  pub numbered : drawn.number ≡ n

-- the line that a form says
abbrev Says : Option LayoutForm → Option Line → Type 0
Says None o = o ≡ None
Says (Some Form.Opening) o = o ≡ Some opens
Says (Some (Form.Track t n)) o = o ≡ Some (track t n)
Says (Some (Form.Wire n)) o = WireLine o n
Says (Some (Form.Loose n)) o = o ≡ Some (loose n)
Says (Some Form.Closing) o = o ≡ Some closes

says : (o : Option Line) → Says (layout_form_of o) o
unfolding layout_form_of line_form
says None = refl
says (Some opens) = refl
says (Some (track t n)) = refl
says (Some (wire w)) = record { drawn = w; line = refl; numbered = refl }
says (Some (loose n)) = refl
says (Some closes) = refl

pub opening_read : (o : Option Line) → Some Form.Opening ≡ layout_form_of o → o ≡ Some opens
opening_read o e = rw (← e) at (says o)

pub track_read : (o : Option Line) (t n : ℕ) → Some (Form.Track t n) ≡ layout_form_of o → o ≡ Some (track t n)
track_read o t n e = rw (← e) at (says o)

pub wire_read : (o : Option Line) (n : ℕ) → Some (Form.Wire n) ≡ layout_form_of o → WireLine o n
wire_read o n e = rw (← e) at (says o)

pub loose_read : (o : Option Line) (n : ℕ) → Some (Form.Loose n) ≡ layout_form_of o → o ≡ Some (loose n)
loose_read o n e = rw (← e) at (says o)

pub closing_read : (o : Option Line) → Some Form.Closing ≡ layout_form_of o → o ≡ Some closes
closing_read o e = rw (← e) at (says o)

pub none_read : (o : Option Line) → None ≡ layout_form_of o → o ≡ None
none_read o e = rw (← e) at (says o)
