-- A file that can't be opened.
use Rattle.std.specs.Prelude.{ℕ, ◌≡◌, Result, Ok, Err}

-- r bytes are read of what was opened, and what can't be opened counts as empty
abbrev pub EmptyUnopened : {F E : Type 0} → Result F E → ℕ → Type 0
EmptyUnopened (Ok file) r = Unit {0}
EmptyUnopened (Err e) r = r ≡ 0
