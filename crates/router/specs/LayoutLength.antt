-- Document 01, "Operations", route: "10, .. with the length needed".
use Rattle.std.specs.Prelude.{ℕ, ◌≡◌, List, length}
use Rattle.board.specs.Job.{Job}
use Rattle.planning.specs.Plan.{plan_of}
use Rattle.sound.specs.Sound.{Sound}
use Rattle.routing.specs.Promises.{ShortestText}

-- n is the length of a sound layout of the job that has the planned wires, each at its shortest length. There is one such layout
-- (routing/proofs/OnlyText)
abbrev pub LayoutLength : Job → ℕ → Type 0
LayoutLength job n = (layout : List ℕ) × (ShortestText job (plan_of job) layout × (Sound job layout × (length layout ≡ n)))
