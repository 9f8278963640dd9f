-- Document 01, "Choosing a track": eligible nets by look-up, from the net that precedes each net and the place where each net's wire stands.
use Rattle.std.specs.Prelude.{ℕ, suc, ◌-◌, ◌<◌, ◌≡◌, Bool, true, ◌&&◌, cond, List, [], ◌∷◌, ◌++◌, map, position, length, get_or, replicate, eqb, Option, None, Some}
use Rattle.std.specs.Option.{is_none, is_some}
use Rattle.std.specs.List.{list_any}
use Rattle.board.specs.declared.Net.{Net}
use Rattle.board.specs.Job.{Job}
use Rattle.board.specs.Stored.{no_net}
use Rattle.board.specs.Tests.{is_on, is_before}
use Rattle.board.specs.declared.Wired.{Wired}

-- some block is on track t
unfoldable pub has_blocks : Job → ℕ → Bool
has_blocks job t = list_any (λ b. eqb b.track.0 t) job.blocks

-- xs in an array of 512, with d in every slot behind them
unfoldable pub padded : {A : Type 0} → A → List A → List A
padded d xs = xs ++ replicate (512 - length xs) d

-- the index of the net that precedes n among ns, if one does. No two nets have the same left row, so at most one does
unfoldable pub before_in : List Net → Net → Option ℕ
before_in ns n = position (λ m. is_before m n) ns

-- for each net the index of the net that precedes it, if one does
unfoldable pub preceding_of : Job → List (Option ℕ)
preceding_of job = padded None (map (before_in job.nets) job.nets)

-- there is no such index, or it passes the test
abbrev pub none_or : (ℕ → Bool) → Option ℕ → Bool
none_or f None = true
none_or f (Some k) = f k

-- where stands[k] tells where the wire of net k stands: net i has none, and the net that precedes it, if one does, has one
unfoldable pub eligible_at : Option ℕ → List (Option Wired) → ℕ → Bool
eligible_at before stands i = is_none (get_or stands i None) && none_or (λ k. is_some (get_or stands k None)) before

-- `earlier` has the number of a net of the job exactly if the net has a wire
pub record Placed (job : Job) (stands : List (Option Wired)) (earlier : List ℕ) : Type 0 where
  pub each : (k : ℕ) → k < length job.nets → is_on earlier (get_or job.nets k no_net) ≡ is_some (get_or stands k None)

-- the numbers of those of some nets that have a wire, in their order, where the first of the nets has index i
unfoldable pub numbers_from : List (Option Wired) → ℕ → List Net → List ℕ
numbers_from stands i [] = []
numbers_from stands i (n ∷ ns) = let rest = numbers_from stands (suc i) ns in cond (is_some (get_or stands i None)) (n.number ∷ rest) rest

-- the numbers of the nets that have a wire, in the job's order
unfoldable pub placed_numbers : Job → List (Option Wired) → List ℕ
placed_numbers job stands = numbers_from stands 0 job.nets
