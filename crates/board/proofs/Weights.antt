-- The weight of an accepted net, at most 1,024, and the weights of the nets of an accepted job together: at most 1,024 for each of 512. Assumes
-- nothing.
use Prim.Native.Nat.{◌*◌, ◌≤◌}
use mathlib.Core.Path.{◌≡◌, refl}
use mathlib.Core.Logic.{⊎_elim}
use mathlib.Core.List.{List, [], ◌∷◌, Memᴰ}
use native.Mathlib.Omega.{arith}
use lib.ListN.{length}
use Rattle.board.specs.declared.Board.{Board}
use Rattle.board.specs.declared.Net.{Net}
use Rattle.board.specs.Length.{needed}
use Rattle.board.specs.Weight.{weight, weight_sum}
use Rattle.board.specs.Job.{Job}
use Rattle.board.specs.Accepted.{BoardInRange, AcceptedNet, AcceptedJob}
use Rattle.board.proofs.ShortestShape.{needed_pos}

-- the weight of an accepted net: its needed rows, or one from 1 to 999
pub weight_range : (board : Board) (n : Net) → BoardInRange board → AcceptedNet board n →
    (1 ≤ weight n) × (weight n ≤ 1024)
unfolding weight
weight_range board n b a =
    let p = needed_pos board n in
    ⊎_elim
    (λ (e : n.weight ≡ needed board n). (omega arith, omega arith))
    (λ (h : (1 ≤ n.weight) × (n.weight ≤ 999)). (omega arith, omega arith))
    a.weight_is

weight_within : (ns : List Net) → ((n : Net) → Memᴰ n ns → weight n ≤ 1024) → weight_sum ns ≤ 1024 * length ns
unfolding weight_sum
weight_within [] f = omega arith
weight_within (n ∷ ns) f =
    omega (arith, f n (Memᴰ.head refl), weight_within ns (λ m i. f m (Memᴰ.tail i)))

pub job_weight : (job : Job) → AcceptedJob job → weight_sum job.nets ≤ 524288
job_weight job a =
    omega (arith, weight_within job.nets (λ n i. (weight_range job.board n a.board_range (a.nets_each n i)).1), a.nets_count)
