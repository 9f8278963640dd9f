-- Document 01, "A sound layout": rival sequences for a track, of placements at any allowed length, and their sums.
use Rattle.std.specs.Prelude.{ℕ, ◌+◌, ◌≤◌, ◌<◌}
use mathlib.Core.List.{List, [], ◌∷◌, Memᴰ}
use Rattle.lists.specs.Lists.{Each, EachPair}
use Rattle.board.specs.Weight.{weight}
use Rattle.board.specs.Job.{Job}
use Rattle.board.specs.Placement.{Placement, Legal, Clear, bottom}
use Rattle.board.specs.Precedence.{Eligible}

-- p may stand on track t, where `earlier` has the numbers of the nets on earlier tracks: a placement of a net of the job at an
-- allowed length, clear of blocks; the net stands on no earlier track, and every net that precedes it does
pub record Placeable (job : Job) (earlier : List ℕ) (t : ℕ) (p : Placement) : Type 0 where
  pub of_job : Memᴰ p.net job.nets
  pub legal : Legal job.board p
  pub clear : Clear job t p
  pub eligible : Eligible job earlier p.net

-- two placements share no row
abbrev pub Apart : Placement → Placement → Type 0
Apart p q = (row : ℕ) → p.top ≤ row → row ≤ bottom p → q.top ≤ row → row ≤ bottom q → ⊥

-- a rival sequence for track t: placements by rising top row, no two of which share a row
pub record Rival (job : Job) (earlier : List ℕ) (t : ℕ) (ps : List Placement) : Type 0 where
  pub placeable : Each (Placeable job earlier t) ps
  pub rising : EachPair (λ p q. p.top < q.top) ps
  pub apart : EachPair Apart ps

-- the sum of a rival sequence: the weights of its nets, whatever the lengths drawn
unfoldable pub rival_sum : List Placement → ℕ
rival_sum [] = 0
rival_sum (p ∷ ps) = weight p.net + rival_sum ps
