-- Order 1: what is promised of the fixed text of a job.
use Rattle.std.specs.Prelude.{ℕ, ◌<◌, ◌≡◌, ◌↔◌, length}
use mathlib.Core.List.{List, Permᴰ}
use Rattle.lists.specs.Lists.{EachPair}
use Rattle.board.specs.Job.{Job}
use Rattle.board.specs.Accepted.{AcceptedJob}
use Rattle.jobfile.specs.Read.{accepted, read_job}
use Rattle.house.specs.Blocks.{Before, EquallyOften}
use Rattle.house.specs.HouseText.{house_text, SameJob}

-- the text is the fixed text of the job
abbrev pub IsFixed : Job → List ℕ → Type 0
IsFixed job text = text ≡ house_text job

-- n is the length of the fixed text of the job
abbrev pub FixedLength : Job → ℕ → Type 0
FixedLength job n = n ≡ length (house_text job)

-- reading the text gives the same board, the same nets in the same order, which is by number, and the same blocks with their order alone
-- changed: by track, A and B, each as often as before
pub record ReadsBack (job : Job) (text : List ℕ) : Type 0 where
  pub back : Job
  pub read_as : read_job text ≡ accepted back
  pub board_same : back.board ≡ job.board
  pub nets_same : back.nets ≡ job.nets
  pub nets_rise : EachPair (λ m n. m.number < n.number) back.nets
  pub blocks_sorted : EachPair Before back.blocks
  pub blocks_often : EquallyOften back.blocks job.blocks
  pub blocks_moved : Permᴰ back.blocks job.blocks

-- an accepted job has this text exactly if the two agree in board and nets and hold the same blocks equally often
abbrev pub OneText : Job → List ℕ → Type 0
OneText job text = (other : Job) → AcceptedJob other → (text ≡ house_text other) ↔ SameJob job other

-- the text is its own fixed text: it is read as a job, and is the fixed text of that
abbrev pub FixedAgain : List ℕ → Type 0
FixedAgain text = (back : Job) × ((read_job text ≡ accepted back) × (text ≡ house_text back))
