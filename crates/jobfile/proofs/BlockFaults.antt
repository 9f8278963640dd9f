-- A block is refused for that of its faults which has the smallest number, and added where it has none. Assumes nothing.
use Prim.Native.Nat.{ℕ, ◌≤◌}
use mathlib.Core.Path.{◌≡◌, refl}
use mathlib.Core.List.{Memᴰ}
use native.Mathlib.Omega.{arith}
use lib.ListN.{length}
use borrow.Author.Tests.{ltb-true, ltb-false}
use Rattle.board.specs.declared.Block.{Block}
use Rattle.board.specs.Job.{Job}
use Rattle.board.specs.Accepted.{BlockInRange}
use Rattle.jobfile.specs.declared.Refusal.{Refusal}
use Rattle.jobfile.specs.declared.Refusal.TheVariants.{OutOfRange, TooMany}
use Rattle.jobfile.specs.Read.{State, filled, with_block, add_block}
use Rattle.jobfile.specs.Answers.{number_of, line_of}
use Rattle.jobfile.specs.Faults.{BlockFault, block_range, block_count}
use Rattle.jobfile.proofs.Tests.{denied, block_range_is}
use Rattle.jobfile.proofs.BlockTests.{block_tests, block_tested, block_rising}
use Rattle.jobfile.proofs.TestOrder.{Judged, Standing, outcomes, tested_judged}

pub block_at : (job : Job) (b : Block) (k : ℕ) (o : Refusal) → BlockFault job b k o → (line_of o ≡ k) × (3 ≤ number_of o)
block_at job b k o (block_range x) = (refl, omega arith)
block_at job b k o (block_count x) = (refl, omega arith)

module _ (job : Job) (b : Block) (k : ℕ) where
  -- what a fault of the block says, by the refusal
  abbrev Says : Refusal → Type 0
  Says (OutOfRange m) = BlockInRange job.board b → ⊥
  Says (TooMany m) = 256 ≤ length job.blocks
  Says _ = Unit {0}

  says : {o : Refusal} → BlockFault job b k o → Says o
  says (block_range x) = x
  says (block_count x) = x

  block_stands : Standing (BlockFault job b k) (block_tests job b k)
  block_stands = (
    record {
      fails = λ e. block_range (denied _ (block_range_is job.board b) e);
      passes = λ e f. says f ((block_range_is job.board b).0 e);
    },
    λ e3. (
      record { fails = λ e. block_count (omega (arith, ltb-false)); passes = λ e f. omega (arith, ltb-true, says f) },
      λ e4. tt,
    ),
  )

  block_covered : (o : Refusal) → BlockFault job b k o → Memᴰ o (outcomes (block_tests job b k))
  block_covered o (block_range x) = Memᴰ.head refl
  block_covered o (block_count x) = Memᴰ.tail (Memᴰ.head refl)

  pub block_judged : (G : State → Type 0) → G (filled (with_block job b)) → Judged (BlockFault job b k) G (add_block k b job)
  block_judged G g =
      rw (block_tested job b k)
      (tested_judged (BlockFault job b k) G (filled (with_block job b)) g (block_tests job b k) (block_rising job b k) block_stands block_covered)
