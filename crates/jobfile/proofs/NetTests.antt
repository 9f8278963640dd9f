-- The tests of a net, refusals 3 to 9, in their order. Assumes nothing.
use Rattle.std.specs.Prelude.{Option}
use Prim.Native.Nat.{ℕ}
use mathlib.Core.Path.{◌≡◌, refl}
use mathlib.Core.Bool.{Bool, not}
use mathlib.Core.List.{List, [], ◌∷◌}
use native.Mathlib.Omega.{arith}
use lib.Dec.{eqb, leb, ltb}
use lib.ListN.{length}
use Rattle.lists.specs.Lists.{all_of}
use Rattle.board.specs.declared.Net.{Net}
use Rattle.board.specs.Job.{Job}
use Rattle.board.specs.Length.{length_of, shortest, needed}
use Rattle.jobfile.specs.declared.Refusal.TheVariants.{OutOfRange, TooMany, NumberNotAbove, PinUsed, SameRow, NoLength, TooFewRows}
use Rattle.jobfile.specs.Read.{State, go, net_in_range, pins_free, test_net}
use Rattle.jobfile.proofs.TestOrder.{LineTest, test, tested, Rising}

module _ (job : Job) (n : Net) (w : Option ℕ) (k : ℕ) (numbered : Bool) where
  -- refusals 3 to 9, in this order
  abbrev pub net_tests : List LineTest
  net_tests =
      test (net_in_range job.board n w) (OutOfRange k) ∷
      test (ltb (length job.nets) 512) (TooMany k) ∷
      test numbered (NumberNotAbove k) ∷
      test (all_of (pins_free n) job.nets) (PinUsed k) ∷
      test (not (eqb n.left.0 n.right.0)) (SameRow k) ∷
      test (leb (length_of job.board n (shortest job.board n)) n.max) (NoLength k) ∷
      test (leb (needed job.board n) job.board.rows) (TooFewRows k) ∷
      []

  pub net_tested : (s : State) → test_net k numbered n w job s ≡ tested net_tests (go s)
  unfolding test_net
  net_tested s = refl

  pub net_rising : Rising net_tests
  net_rising = omega arith
