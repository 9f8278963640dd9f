-- `exports::hankuribo_house` meets its contract. Assumes nothing.
use Rattle.exports.proofs.Replies.{house_given}
use Rattle.exports.proofs.hankuribo_house.Goals as goal

pub returns : goal.returns
returns c =
    let r = c.reply.ensures in
    house_given _ c.args.out.now _ _ c.house.ensures _ _ _ r.number_is r.line_is r.bytes_is
