-- `joblines::put_optional` meets its contract. Assumes nothing.
use native.Mathlib.Omega.{arith}
use mathlib.Core.Path.{ap}
use lib.ListN.{length}
use Rattle.joblines.proofs.Lines.{none_put, some_text, some_put}
use Rattle.joblines.proofs.put_optional.Goals as goal

pub put_spaced-requires : goal.put_spaced-requires
put_spaced-requires c =
    let e = ap length (some_text _ _ c.in-Some.is) in
    omega (arith, e, c.requires)

pub returns-in-None : goal.returns-in-None
returns-in-None c = none_put _ _ _ c.in-None.is

pub returns-in-Some : goal.returns-in-Some
returns-in-Some c = some_put _ _ c.in-Some.is c.put_spaced.ensures
