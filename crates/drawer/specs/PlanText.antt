-- Document 01, "Drawing": the text of a plan, and the plans that can be drawn.
use Rattle.std.specs.Prelude.{ℕ, ◌≤◌, ◌≡◌, Bool, true, false, ◌&&◌, List, map, eqb, length, take, Option, None, Some}
use Rattle.lists.specs.Lists.{Each, EachPair}
use Rattle.board.specs.Length.{extra}
use Rattle.board.specs.Job.{Job}
use Rattle.layout.specs.Tree.{Layout}
use Rattle.layout.specs.LayoutText.{layout_text}
use Rattle.routing.specs.DrawnTracks.{drawn_tracks}
use Rattle.board.specs.declared.Wired.{Wired}
use Rattle.planner.specs.declared.JobPlan.{JobPlan}
use Rattle.planner.specs.Chosen.{tracks_of, loose_nets}

-- the layout of a plan: its tracks drawn, and the numbers of its loose nets
unfoldable pub plan_layout : Job → JobPlan → Layout
plan_layout job plan = record { tracks = drawn_tracks job.board 1 (tracks_of job plan); loose = map (λ n. n.number) (loose_nets job plan) }

-- the text of a plan: that of its layout
unfoldable pub plan_text : Job → JobPlan → List ℕ
plan_text job plan = layout_text (plan_layout job plan)

-- whether the wire of a net stands on track t with its top at a row
abbrev pub is_at : ℕ → ℕ → Option Wired → Bool
is_at t row None = false
is_at t row (Some w) = eqb w.track.0 t && eqb w.top.0 row

-- a wire that is small enough to draw, if a net has one: nothing overflows
abbrev pub DrawableWire : Option Wired → Type 0
DrawableWire None = Unit {0}
DrawableWire (Some w) = (1 ≤ w.track.0) × (w.track.0 ≤ 128) × (1 ≤ w.top.0) × (w.top.0 ≤ 1024) × (extra w.shape ≤ 4096)

-- two nets do not stand on one track with the same top row
abbrev pub OtherPlace : Option Wired → Option Wired → Type 0
OtherPlace p q = (t row : ℕ) → is_at t row p ≡ true → is_at t row q ≡ true → ⊥

-- a plan whose nets are each small enough to draw, no two of them on one track with the same top row
pub record DrawablePlan (job : Job) (plan : JobPlan) : Type 0 where
  pub each : Each DrawableWire (take (length job.nets) plan.nets)
  pub apart : EachPair OtherPlace (take (length job.nets) plan.nets)
