-- `exports::hankuribo_route` meets its contract. Assumes nothing.
use Rattle.exports.proofs.Replies.{reply_given}
use Rattle.exports.proofs.hankuribo_route.Goals as goal

pub returns : goal.returns
returns c =
    let r = c.reply.ensures in
    reply_given _ c.args.out.now _ _ c.route.ensures _ _ _ r.number_is r.line_is r.bytes_is
