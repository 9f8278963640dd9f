-- The step of the reading place: the form of the line there, and the place behind it.
use Rattle.std.specs.Prelude.{List, ℕ, ◌-◌, take, drop, Option, None, Some}
use Rattle.lines.specs.Places.{step_at}
use Rattle.lines.specs.declared.Line.{Line}
use Rattle.jobfile.specs.Forms.{read_form}
use Rattle.reader.specs.declared.cursor.Cursor.{Cursor}
use Rattle.jobfile.specs.declared.Form.{Form}

-- the form of the line that a step passes
unfoldable pub form_on : List ℕ → Option Line → Option (Form × Cursor)
form_on s (Some l) = Some (read_form (take (l.to - l.from) (drop l.from s)), record { place = l.next })
form_on s None = None

-- the form at a reading place and the next place
unfoldable pub form_step : List ℕ → Cursor → Option (Form × Cursor)
form_step s c = form_on s (step_at s c.place)
