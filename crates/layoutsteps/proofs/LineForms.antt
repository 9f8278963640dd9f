-- A line that a step passes is read from its bytes. Assumes nothing.
use Prim.Native.Nat.{ℕ, ◌-◌}
use mathlib.Core.Path.{◌≡◌}
use Rattle.std.specs.Prelude.{None, Some}
use mathlib.Core.List.{List}
use native.Mathlib.Omega.{arith}
use lib.Dec.{eqb}
use lib.ListN.{take, drop}
use Rattle.lists.proofs.Cases.{by_test}
use Rattle.lines.specs.declared.Place.{Place}
use Rattle.layout.specs.Tree as Tree
use Rattle.layout.specs.ReadBack.{read_line}
use Rattle.layoutsteps.specs.LayoutSteps.{line_read}

module _ (s : List ℕ) (from to : ℕ) (next : Place) where
  pub read_bytes : (y : Tree.Line) → line_read s from to next.at ≡ Some y → read_line (take (to - from) (drop from s)) ≡ Some y
  unfolding line_read
  read_bytes y e =
      by_test (eqb next.at to)
      (λ t. let n : None ≡ Some y = rw t at e in let z : ◌≡◌ {A = ℕ} 0 1 = cc in absurd (omega arith))
      (λ t. rw t at e)
