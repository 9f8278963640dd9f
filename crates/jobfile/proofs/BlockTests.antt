-- The tests of a block, refusals 3 and 4, in their order. Assumes nothing.
use Prim.Native.Nat.{ℕ}
use mathlib.Core.Path.{◌≡◌, refl}
use mathlib.Core.List.{List, [], ◌∷◌}
use native.Mathlib.Omega.{arith}
use lib.Dec.{ltb}
use lib.ListN.{length}
use Rattle.board.specs.declared.Block.{Block}
use Rattle.board.specs.Job.{Job}
use Rattle.jobfile.specs.declared.Refusal.TheVariants.{OutOfRange, TooMany}
use Rattle.jobfile.specs.Read.{filled, go, with_block, block_in_range, add_block}
use Rattle.jobfile.proofs.TestOrder.{LineTest, test, tested, Rising}

module _ (job : Job) (b : Block) (k : ℕ) where
  -- refusals 3 and 4, in this order
  abbrev pub block_tests : List LineTest
  block_tests = test (block_in_range job.board b) (OutOfRange k) ∷ test (ltb (length job.blocks) 256) (TooMany k) ∷ []

  pub block_tested : add_block k b job ≡ tested block_tests (go (filled (with_block job b)))
  unfolding add_block
  block_tested = refl

  pub block_rising : Rising block_tests
  block_rising = omega arith
