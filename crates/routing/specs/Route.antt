-- Document 01, "Drawing": the text that route writes for a job.
use Rattle.std.specs.Prelude.{ℕ, List, map}
use Rattle.board.specs.Job.{Job}
use Rattle.planning.specs.Plan.{plan_of}
use Rattle.planning.specs.Loose.{loose_of}
use Rattle.layout.specs.Tree.{Layout}
use Rattle.layout.specs.LayoutText.{layout_text}
use Rattle.routing.specs.DrawnTracks.{drawn_tracks}

-- the layout of a job: its plan drawn, and its loose nets by rising number
unfoldable pub route_layout : Job → Layout
route_layout job =
    let plan = plan_of job in
    record { tracks = drawn_tracks job.board 1 plan; loose = map (λ n. n.number) (loose_of job plan) }

-- the text that route writes
unfoldable pub route_text : Job → List ℕ
route_text job = layout_text (route_layout job)
