-- What document 01 says of its starred boards holds of every one of them. Assumes nothing.
use Prim.Native.Nat.{ℕ}
use mathlib.Core.Path.{◌≡◌, refl}
use mathlib.Core.List.{[], ◌∷◌}
use Rattle.lists.specs.Lists.{Each}
use Rattle.board.specs.Job.{Job}
use Rattle.board.specs.WorkedBoard.{worked_job}
use Rattle.board.specs.TriedBoards.{tried_board, tried_net}
use Rattle.board.proofs.Lengths.{rows_21, rows_20, rows_14, min_22, min_8}
use Rattle.text.specs.Bytes.{bytes}
use Rattle.jobfile.specs.declared.Refusal.TheVariants.{NotOfForm, NoLength}
use Rattle.jobfile.specs.Read.{board_of, empty_job}
use Rattle.jobfile.specs.TextsRead.{read_as}
use Rattle.jobfile.proofs.Texts.{worked_board}
use Rattle.routing.specs.Route.{route_text}
use Rattle.routing.proofs.WorkedLayout.{computed_text, worked_text_lem}
use Rattle.starred.specs.Boards.{AsStated, starred_boards}

-- the job of the net from row 10 to row 14, on a board with so many rows and one track
abbrev tried_job : ℕ → ℕ → ℕ → ℕ → Job
tried_job rows least most heavy = record { board = tried_board rows; nets = tried_net least most heavy ∷ []; blocks = [] }

-- a board without nets: all sums 0
no_nets : route_text (empty_job (board_of 21 2)) ≡ bytes "(layout\n (track 1 0)\n (track 2 0)\n)\n"
unfolding computed_text
no_nets = refl

-- the one fact about the whole list
pub all_stated : Each AsStated starred_boards
unfolding read_as
all_stated = (
  record { job = worked_job; read = worked_board; written_is = worked_text_lem },
  (
    record { job = tried_job 21 23 23 12; net = tried_net 23 23 12; read = refl; only = refl; tried = rows_21; so_many = refl },
    (
      record { job = tried_job 20 23 23 12; net = tried_net 23 23 12; read = refl; only = refl; tried = rows_20; so_many = refl },
      (
        record { job = tried_job 14 23 23 12; net = tried_net 23 23 12; read = refl; only = refl; tried = rows_14; so_many = refl },
        (
          record { job = tried_job 21 22 23 12; net = tried_net 22 23 12; read = refl; only = refl; tried = min_22; so_many = refl },
          (
            record { outcome = NoLength 4; read = refl; number_is = refl; line_is = refl },
            (
              record { job = tried_job 21 8 9 5; net = tried_net 8 9 5; read = refl; only = refl; tried = min_8; so_many = refl },
              (
                record { outcome = NoLength 4; read = refl; number_is = refl; line_is = refl },
                (
                  record { job = empty_job (board_of 21 2); read = refl; written_is = no_nets },
                  (record { outcome = NotOfForm 1; read = refl; number_is = refl; line_is = refl }, tt),
                ),
              ),
            ),
          ),
        ),
      ),
    ),
  ),
)
