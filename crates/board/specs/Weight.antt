-- Document 02, order 2: what a net counts.
use Rattle.std.specs.Prelude.{ℕ, ◌+◌, List, [], ◌∷◌}
use Rattle.board.specs.declared.Net.{Net}

-- the weight of a net: what the choice of a track, the printed sums, their balance, the sums of rivals and the sum rule of the check add for
-- it. Its line gives it, or leaves it out, and then it is the needed rows: `jobfile/specs/Read.weight_given`
unfoldable pub weight : Net → ℕ
weight n = n.weight

-- the weights of nets together
unfoldable pub weight_sum : List Net → ℕ
weight_sum [] = 0
weight_sum (n ∷ ns) = weight n + weight_sum ns
