-- Document 01, "Drawing": a layout as a tree, and the lines that it has.
use Rattle.std.specs.Prelude.{List, ℕ}
pub use Rattle.layout.specs.declared.Point.{Point}

-- a wire line: the number of its net, and its points
pub record Wire : Type 0 where
  pub number : ℕ
  pub points : List Point

-- a track line and the wires under it
pub record DrawnTrack : Type 0 where
  pub track : ℕ
  pub sum : ℕ
  pub wires : List Wire

-- a layout: its tracks, and the numbers of its loose nets
pub record Layout : Type 0 where
  pub tracks : List DrawnTrack
  pub loose : List ℕ

-- a line of a layout
pub data Line : Type 0 where
  opens : Line
  track : ℕ → ℕ → Line
  wire : Wire → Line
  loose : ℕ → Line
  closes : Line
