-- A text that stops before the closing line is broken at the line after the last. Assumes nothing.
use Prim.Native.Nat.{ℕ}
use mathlib.Core.Path.{◌≡◌}
use mathlib.Core.List.{List, []}
use native.Mathlib.Omega.{arith}
use Rattle.board.specs.Job.{Job}
use Rattle.layout.specs.Tree.{Wire}
use Rattle.drc.specs.Standing.{before_layout, in_layout, behind_layout}
use Rattle.drc.specs.Breach.{BreachFrom, stops_early}

pub before_not_behind : before_layout ≡ behind_layout → ⊥
before_not_behind e = let z : ◌≡◌ {A = ℕ} 0 1 = cc in omega arith

pub in_not_behind : (t : ℕ) (earlier : List ℕ) (ws : List Wire) (ns : List ℕ) → in_layout t earlier ws ns ≡ behind_layout → ⊥
in_not_behind t earlier ws ns e = let z : ◌≡◌ {A = ℕ} 0 1 = cc in omega arith

pub early_before : (job : Job) (n : ℕ) → BreachFrom job n before_layout [] n
early_before job n = stops_early before_not_behind

pub early_in : (job : Job) (n t : ℕ) (earlier : List ℕ) (ws : List Wire) (ns : List ℕ) → BreachFrom job n (in_layout t earlier ws ns) [] n
early_in job n t earlier ws ns = stops_early (in_not_behind t earlier ws ns)
