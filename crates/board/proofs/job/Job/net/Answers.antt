-- `Job::net` meets its contract. Assumes nothing.
use Rattle.lists.proofs.Places.{mem_at}
use Rattle.board.specs.Stored.{no_net}
use Rattle.board.proofs.job.Job.net.Goals as goal

pub invariant_of-result-clause-board_in_range : goal.invariant_of-result-clause-board_in_range
invariant_of-result-clause-board_in_range c = rw c.board.ensures.board c.board.ensures.accepted.board_range

pub invariant_of-result-clause-net_in_range : goal.invariant_of-result-clause-net_in_range
invariant_of-result-clause-net_in_range c =
    let job = c.args.self.now in
    rw (c.board.ensures.board, c.nets-nets.ensures.nets)
    (c.board.ensures.accepted.nets_each _ (mem_at job.nets c.args.i no_net c.requires)).in_range
