-- What is promised of the fixed text of an accepted job. Assumes nothing.
use mathlib.Core.Path.{◌≡◌, refl}
use Rattle.board.specs.Job.{Job}
use Rattle.board.specs.Accepted.{AcceptedJob}
use Rattle.house.specs.Blocks.{sort_blocks}
use Rattle.house.specs.HouseText.{house_lines, house_text, house_job}
use Rattle.house.specs.Promises.{ReadsBack, OneText, FixedAgain}
use Rattle.house.proofs.BlockTimes.{sorted_times}
use Rattle.house.proofs.BlockOrder.{sorted, sorted_moved, sort_same}
use Rattle.house.proofs.HouseRead.{house_read, one_text}

-- the job that is read back has the same text
again : (job : Job) → house_text job ≡ house_text (house_job job)
unfolding house_text house_lines
again job = rw (sort_same (sort_blocks job.blocks) job.blocks (sorted_times job.blocks))

module _ (job : Job) (a : AcceptedJob job) where
  pub house_back : ReadsBack job (house_text job)
  house_back =
      record {
        back = house_job job;
        read_as = house_read job a;
        board_same = refl;
        nets_same = refl;
        nets_rise = a.numbers_rise;
        blocks_sorted = sorted job.blocks;
        blocks_often = sorted_times job.blocks;
        blocks_moved = sorted_moved job.blocks;
      }

  pub house_one : OneText job (house_text job)
  house_one other b = one_text job other a b

  pub house_again : FixedAgain (house_text job)
  house_again = (house_job job, (house_read job a, again job))
