-- A place in a text, and the step from it over a whole line. Document 01, "Text of a job": the reading place.
use Rattle.std.specs.Prelude.{Bool, cond, List, [], ◌∷◌, ℕ, suc, ◌+◌, ◌-◌, min, length, take, drop, ltb, Option, None, Some}
use Rattle.text.specs.Bytes.{is_end, lines}
use Rattle.lines.specs.declared.Place.{Place}
use Rattle.lines.specs.declared.Line.{Line}

-- how many bytes stand before the first for which f holds; all, where there is none
unfoldable pub until : (ℕ → Bool) → List ℕ → ℕ
until f [] = 0
until f (b ∷ bs) = let more = suc (until f bs) in cond (f b) 0 more

-- the place of the first byte at or after `at` for which f holds, or the end of the text; `at` itself where that is not before the end
unfoldable pub scan : (ℕ → Bool) → List ℕ → ℕ → ℕ
scan f s at = at + until f (drop at s)

-- the end of the line at a place: its byte 10, or the end of the text
abbrev pub line_end : List ℕ → ℕ → ℕ
line_end s at = scan is_end s at

-- the line at a place and the place behind it, with one line more passed; none at the end of the text
unfoldable pub step_at : List ℕ → Place → Option Line
step_at s p =
    cond (ltb p.at (length s))
    (Some (record { from = p.at; to = line_end s p.at; next = record { at = min (line_end s p.at + 1) (length s); passed = p.passed + 1 } })) None

-- the lines that are left at a step: the one that it passes and those behind it; none at the end of the text
unfoldable pub step_lines : List ℕ → Option Line → List (List ℕ)
step_lines s (Some l) = take (l.to - l.from) (drop l.from s) ∷ lines (drop l.next.at s)
step_lines s None = []
