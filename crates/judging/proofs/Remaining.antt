-- What remains of a printed sum behind the wires of a track. Assumes nothing.
use Prim.Native.Nat.{ℕ, ◌+◌, ◌-◌, ◌≤◌}
use mathlib.Core.Path.{◌≡◌}
use Rattle.std.specs.Prelude.{Option, None, Some, SomeIff}
use native.Mathlib.Omega.{arith}
use Rattle.std.proofs.lemmas.Bool.Decides.{nat_tests}
use lib.Dec.{eqb}
use Rattle.judging.specs.Values.{remaining_of, remaining_after, is_used_up}

-- all of it, where there is no wire
pub remaining_all : (printed : ℕ) → remaining_of printed 0 ≡ Some printed
unfolding remaining_of
remaining_all printed = grind (arith, nat_tests)

-- less by the weight of one more wire
pub remaining_more : (printed sum w : ℕ) → remaining_after (remaining_of printed sum) w ≡ remaining_of printed (sum + w)
unfolding remaining_of
remaining_more printed sum w = grind (arith, nat_tests)

-- nothing, where the wires add up to it
pub used_up : (printed sum : ℕ) → is_used_up (remaining_of printed sum) ≡ eqb sum printed
unfolding remaining_of
used_up printed sum = grind (arith, nat_tests)

-- as a subtraction that is checked tells it
pub checked_is : (r : Option ℕ) (n w : ℕ) → SomeIff r (w ≤ n) (n - w) → r ≡ remaining_of n w
unfolding remaining_of
checked_is None n w f = grind (arith, nat_tests)
checked_is (Some x) n w f = grind (arith, nat_tests)
