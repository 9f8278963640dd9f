-- Demand 2, "passes ours": the verdict on the text that route writes for an accepted job is sound, and none of its lines is broken. Assumes
-- nothing.
use Prim.Native.Nat.{ℕ}
use mathlib.Core.Path.{◌≡◌}
use Rattle.board.specs.Job.{Job}
use Rattle.board.specs.Accepted.{AcceptedJob}
use Rattle.routing.specs.Route.{route_text}
use Rattle.routing.proofs.RouteSound.{route_sound}
use Rattle.drc.specs.Breach.{Breach}
use Rattle.drc.specs.Judge.{sound_text, judge}
use Rattle.drc.proofs.FirstBroken.{judge_no_breach}
use Rattle.drc.proofs.JudgeSound.{sound_judge}

module _ (job : Job) (a : AcceptedJob job) where
  pub route_judged : judge job (route_text job) ≡ sound_text
  route_judged = sound_judge job a (route_text job) (route_sound job a)

  pub route_unbroken : (l : ℕ) → Breach job (route_text job) l → ⊥
  route_unbroken l b = judge_no_breach job a (route_text job) l route_judged b
