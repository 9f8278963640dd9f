-- That the index of a net that precedes is in its range is shown in one way, so that a value may carry it.
use Rattle.std.specs.Prelude.{ℕ, ◌<◌, Option, None, Some, IfSome}
use Rattle.std.specs.Coded.{Unit-prop, le_prop}

pub before_range_once : (before : Option ℕ) → IsProp (IfSome before (λ i. i < 512))
before_range_once None = Unit-prop
before_range_once (Some i) = le_prop
