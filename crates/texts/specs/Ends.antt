-- How the texts on standard input are kept apart.
use Rattle.std.specs.Prelude.{Bool, ℕ, List, eqb}
use Rattle.text.specs.Bytes.{pieces}

-- byte 255 ends a text
abbrev pub ends_text : ℕ → Bool
ends_text b = eqb b 255

-- the texts of an input, without their byte 255: a last one without it, if not empty, is a text
abbrev pub texts_of : List ℕ → List (List ℕ)
texts_of s = pieces ends_text s
