-- `drawnwires::drawn_place` meets its contract. Assumes nothing.
use Rattle.std.proofs.Common.{sym, ◌∙◌, arith}
use Rattle.std.proofs.lemmas.Grind.{common_steps}
use Rattle.drawnwires.proofs.Drawn.{only_track, on_board_last, answer}
use Rattle.drawnwires.proofs.drawn_place.Goals as goal
use Rattle.drawnwires.proofs.drawn_place.Goals.{then-is_on_board, else-is_on_board}

pub draws-drawn-requires : goal.draws-drawn-requires
draws-drawn-requires c =
    record {
      track_range = rw (c.only_place-wired.ensures, only_track) c.requires.le_track;
      to_last = on_board_last _ _ (sym c.is_on_board.ensures ∙ c.if-is_on_board.true);
    }

pub returns : goal.returns
returns c =
    rw c.then_some.ensures
    (answer c.args.net.board c.args.net.net c.args.track _ _ _ _ c.column_rows-rows.ensures c.only_place-wired.ensures
    (elim c.if-is_on_board.branch [ then-is_on_board w ↦ grind (arith, common_steps) | else-is_on_board w ↦ grind (arith, common_steps) ]))
