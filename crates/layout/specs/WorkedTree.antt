-- The layout that document 01 prints, as a tree.
use Rattle.std.specs.Prelude.{ℕ, List, [], ◌∷◌}
use Rattle.layout.specs.Tree.{Point, Wire, Layout}
use Rattle.layout.specs.Drawing.{at}

-- the wire of net n through the points
abbrev pub wire_through : ℕ → List Point → Wire
wire_through n ps = record { number = n; points = ps }

-- the layout of document 01 as a tree
abbrev pub worked_layout : Layout
worked_layout = record {
  tracks =
      record {
        track = 1;
        sum = 9;
        wires =
            wire_through 1 (at 0 2 ∷ at 1 2 ∷ at 1 4 ∷ at 5 4 ∷ []) ∷
            wire_through 2 (at 0 6 ∷ at 1 6 ∷ at 1 5 ∷ at 2 5 ∷ at 2 8 ∷ at 1 8 ∷ at 5 8 ∷ []) ∷
            wire_through 3 (at 0 9 ∷ at 1 9 ∷ at 1 10 ∷ at 5 10 ∷ []) ∷ [];
      } ∷
      record { track = 2; sum = 2; wires = wire_through 4 (at 0 3 ∷ at 3 3 ∷ at 3 2 ∷ at 5 2 ∷ []) ∷ [] } ∷ [];
  loose = 5 ∷ [];
}
