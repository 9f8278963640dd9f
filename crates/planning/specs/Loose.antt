-- Document 01, "Choosing a track": after track K the nets without a wire are loose; and the sums of the balance.
use Rattle.std.specs.Prelude.{ℕ, ◌+◌, cond, List, [], ◌∷◌}
use Rattle.board.specs.declared.Net.{Net}
use Rattle.board.specs.Job.{Job}
use Rattle.board.specs.Unbeaten.{FilledTrack, numbers_on}
use Rattle.board.specs.Tests.{is_on}

-- the nets whose numbers are not in `on`
unfoldable pub without : List ℕ → List Net → List Net
without on [] = []
without on (n ∷ ns) = cond (is_on on n) (without on ns) (n ∷ without on ns)

-- the loose nets of a plan: those of the job without a wire in it
unfoldable pub loose_of : Job → List FilledTrack → List Net
loose_of job plan = without (numbers_on plan) job.nets

-- all sums of a plan, added up
unfoldable pub sum_of_tracks : List FilledTrack → ℕ
sum_of_tracks [] = 0
sum_of_tracks (tp ∷ tps) = tp.sum + sum_of_tracks tps
