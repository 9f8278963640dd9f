-- Before each turn of the loop of `housewriter::put_nets` the lines of the nets passed are written.
use lib.ListN.{drop}
use Rattle.text.specs.Runs.{Going}
use Rattle.housewriter.specs.Parts.{nets_text}
use Rattle.housewriter.proofs.put_nets.Given as goal

abbrev pub invariant-loop-net : goal.invariant-loop-net
invariant-loop-net l = Going l.at (nets_text l.job.board l.net-items) (nets_text l.job.board (drop l.net-index l.net-items)) l.initial.out l.out l.next
