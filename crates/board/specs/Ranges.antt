-- That a board, or a net on it, is in its ranges is shown in one way, so that a value may carry it.
use Rattle.std.specs.Coded.{×_prop, le_prop}
use Rattle.board.specs.declared.Board.{Board}
use Rattle.board.specs.declared.Net.{Net}
use Rattle.board.specs.Accepted.{BoardInRange, NetInRange}

pub board_range_once : (board : Board) → IsProp (BoardInRange board)
board_range_once board x y =
    λ i. record {
      rows_range = ×_prop le_prop le_prop x.rows_range y.rows_range i;
      tracks_range = ×_prop le_prop le_prop x.tracks_range y.tracks_range i;
    }

pub net_range_once : (board : Board) (n : Net) → IsProp (NetInRange board n)
net_range_once board n x y =
    λ i. record {
      number_range = ×_prop le_prop le_prop x.number_range y.number_range i;
      left_range = ×_prop le_prop le_prop x.left_range y.left_range i;
      right_range = ×_prop le_prop le_prop x.right_range y.right_range i;
      bounds_range = ×_prop le_prop le_prop x.bounds_range y.bounds_range i;
    }
