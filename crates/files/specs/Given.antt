-- The bytes of a reader. Which bytes a file or standard input has no contract can say; a reader over memory can.
use Rattle.std.specs.Prelude.{ℕ, List, IfSome, Option, Result, Ok, Err}
use Rattle.std.specs.Io.{StartsWith}

-- the bytes that are read of what was opened are the first of those that it had left, where those are known
abbrev pub FirstGiven : {F E : Type 0} → (F → Option (List ℕ)) → Result F E → List ℕ → Type 0
FirstGiven remaining (Ok file) bytes = IfSome (remaining file) (λ xs. StartsWith xs bytes)
FirstGiven remaining (Err e) bytes = Unit {0}
