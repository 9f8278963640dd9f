-- The step over a line of a layout text: the form of the line, and the place behind it.
use Rattle.std.specs.Prelude.{◌≡◌, cond, List, ℕ, ◌-◌, eqb, take, drop, Option, None, Some}
use Rattle.lines.specs.Places.{step_at}
use Rattle.lines.specs.declared.Place.{Place}
use Rattle.lines.specs.declared.Line as L
use Rattle.layout.specs.Tree as Tree
use Rattle.layout.specs.ReadBack.{read_line}
use Rattle.layoutforms.specs.LayoutForms.{layout_form_of}
use Rattle.layoutforms.specs.declared.LayoutForm.{LayoutForm}
use Rattle.layoutforms.specs.declared.LayoutForm.TheVariants as Is
use Rattle.layoutsteps.specs.declared.LayoutLine.{LayoutLine}

-- the line from byte `from` to before byte `to`, as it is read; not of the form where the next line begins at `to`, since no byte 10
-- ends it
unfoldable pub line_read : List ℕ → ℕ → ℕ → ℕ → Option Tree.Line
line_read s from to next = cond (eqb next to) None (read_line (take (to - from) (drop from s)))

-- the line that a step passes, if one is left
unfoldable pub layout_on : List ℕ → Option L.Line → Option LayoutLine
layout_on s (Some l) = Some (record { form = layout_form_of (line_read s l.from l.to l.next.at); from = l.from; to = l.to; next = l.next })
layout_on s None = None

-- the line at a place, if one is left
unfoldable pub layout_step : List ℕ → Place → Option LayoutLine
layout_step s p = layout_on s (step_at s p)

-- the number of the net that a line is of, if it is of one
abbrev pub form_number : Option LayoutForm → Option ℕ
form_number None = None
form_number (Some Is.Opening) = None
form_number (Some (Is.Track t n)) = None
form_number (Some (Is.Wire n)) = Some n
form_number (Some (Is.Loose n)) = Some n
form_number (Some Is.Closing) = None

-- line x has the form, and is read from the text s where it is one
pub record LineIs (s : List ℕ) (x : Option Tree.Line) (form : Option LayoutForm) : Type 0 where
  pub form_is : form ≡ layout_form_of x
  pub read_is : (y : Tree.Line) → x ≡ Some y → read_line s ≡ Some y
