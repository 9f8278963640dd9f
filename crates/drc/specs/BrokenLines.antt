-- All broken lines of a layout text, worked out: the judging goes on past a broken line until it closes (order 3). They pin `Breach`
-- down where the verdict does not look, below the first broken line.
use Rattle.std.specs.Prelude.{ℕ, suc, cond, List, [], ◌∷◌, Option, None, Some}
use Rattle.board.specs.Job.{Job}
use Rattle.layout.specs.Tree.{Line}
use Rattle.drc.specs.Standing.{lines_read, Above, before_layout, in_layout, behind_layout, with_line}
use Rattle.drc.specs.Judge.{is_in_place, keeps_rules}

-- at the end of the text, where n is the line after the last: n is broken if the text stops early
unfoldable pub broken_end : ℕ → Above → List ℕ
broken_end n before_layout = n ∷ []
broken_end n (in_layout t earlier ws ns) = n ∷ []
broken_end n behind_layout = []

-- the broken ones of the lines from line n on, which have a above them
unfoldable pub broken_from : Job → ℕ → Above → List (Option Line) → List ℕ
broken_from job n a [] = broken_end n a
broken_from job n a (None ∷ ls) = n ∷ []
broken_from job n a (Some x ∷ ls) =
    let rest = broken_from job (suc n) (with_line a x) ls in
    cond (is_in_place job a x) (cond (keeps_rules job a x ls) rest (n ∷ rest)) (n ∷ [])

-- the broken lines of a text, from the top
unfoldable pub broken_lines : Job → List ℕ → List ℕ
broken_lines job text = broken_from job 1 before_layout (lines_read text)
