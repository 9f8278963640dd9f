-- `toptable::tops_of` meets its contract: each part is that of the net at its shortest length. Assumes nothing.
use mathlib.Core.Path.{ap, ◌∙◌}
use Rattle.board.specs.Weight.{weight}
use Rattle.board.specs.Placement.{first_top, last_top}
use Rattle.board.proofs.Tops.{accepted_fits}
use Rattle.candidates.specs.Gathered.{tops_of}
use Rattle.toptable.proofs.tops_of.Goals as goal

pub last_top-requires : goal.last_top-requires
last_top-requires c = rw c.shortest-shape.ensures (accepted_fits c.args.net.board c.args.net.net c.requires)

pub returns : goal.returns
unfolding tops_of weight
returns c =
    let n = c.args.net in
    let first = c.first_top.ensures ∙ ap (first_top n.net) c.shortest-shape.ensures in
    let last = c.last_top.ensures ∙ ap (last_top n.board n.net) c.shortest-shape.ensures in
    λ i. record { need = c.needed.ensures i; weight = n.net.weight; first = record { 0 = first i }; last = record { 0 = last i } }
