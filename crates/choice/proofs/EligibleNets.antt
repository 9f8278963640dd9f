-- The candidates are the eligible nets of the job: any other net is passed over, and fits nowhere. Assumes nothing.
use Prim.Native.Nat.{ℕ, suc}
use mathlib.Core.Path.{◌≡◌}
use mathlib.Core.Bool.{true, false}
use mathlib.Core.List.{List, ◌∷◌}
use Rattle.board.specs.declared.Net.{Net}
use Rattle.board.specs.Job.{Job}
use Rattle.board.specs.Tests.{is_eligible}
use Rattle.packing.specs.Fits.{fits_at}
use Rattle.candidates.specs.Gathered.{Eligible, eligible_from}

abbrev pub eligible_at : ℕ → Net → Eligible
eligible_at x n = record { index = x; net = n }

module _ (job : Job) (earlier : List ℕ) (x : ℕ) (n : Net) (ns : List Net) where
  pub eligible_here : is_eligible job earlier n ≡ true → eligible_from job earlier x (n ∷ ns) ≡ eligible_at x n ∷ eligible_from job earlier (suc x) ns
  unfolding eligible_from
  eligible_here e = rw e

  pub eligible_later : is_eligible job earlier n ≡ false → eligible_from job earlier x (n ∷ ns) ≡ eligible_from job earlier (suc x) ns
  unfolding eligible_from
  eligible_later e = rw e

pub other_fits : (job : Job) (earlier : List ℕ) (t : ℕ) (n : Net) (j : ℕ) → is_eligible job earlier n ≡ false → fits_at job earlier t n j ≡ false
unfolding fits_at
other_fits job earlier t n j e = rw e
