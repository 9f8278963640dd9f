-- `toptable::tops_table` meets its contract: the nets of an accepted job may be lent. Assumes nothing.
use Rattle.candidates.proofs.NetBefore.{accepted_at, preceding_range}
use Rattle.toptable.proofs.tops_table.Goals as goal

pub put_all_tops-requires : goal.put_all_tops-requires
put_all_tops-requires c =
    let job = c.args.job.now in
    let lent = c.nets-nets.ensures in
    let a = lent.accepted in
    rw (lent.nets, c.board.ensures.board, c.requires) (record {
      board_range = a.board_range;
      accepted = accepted_at job a;
      few = a.nets_count;
      before_range = preceding_range job a;
    })

pub returns : goal.returns
returns c = rw (c.nets-nets.ensures.nets, c.board.ensures.board, c.requires) at c.put_all_tops.ensures
