-- The job by value: its arrays hold the job's nets and blocks, and one fixed empty record in every other slot.
use Rattle.std.specs.Prelude.{◌-◌, ◌≤◌, ◌++◌, length, take, replicate}
use Rattle.board.specs.declared.Net.{Net}
use Rattle.board.specs.declared.Block.{Block}
use Rattle.board.specs.declared.StoredJob.{StoredJob}
use Rattle.board.specs.Job.{Job}
use Rattle.board.specs.Accepted.{AcceptedJob}

-- the job that a value stands for: its board, its first nnets nets, its first nblocks blocks
abbrev pub job_of : StoredJob → Job
job_of s = record { board = s.board; nets = take s.nnets s.nets; blocks = take s.nblocks s.blocks }

-- what an unused slot of the nets holds
abbrev pub no_net : Net
no_net = record { number = 0; left = record { 0 = 0 }; right = record { 0 = 0 }; min = 0; max = 0; weight = 0 }

-- what an unused slot of the blocks holds
abbrev pub no_block : Block
no_block = record { track = record { 0 = 0 }; first = record { 0 = 0 }; last = record { 0 = 0 } }

-- the one value that a job is stored as
unfoldable pub stored_of : Job → StoredJob
stored_of job =
    record {
      board = job.board;
      nnets = length job.nets;
      nblocks = length job.blocks;
      nets = job.nets ++ replicate (512 - length job.nets) no_net;
      blocks = job.blocks ++ replicate (256 - length job.blocks) no_block;
    }

-- a job by value that no refusal turns away, and whose counts are within its arrays
pub record AcceptedStored (s : StoredJob) : Type 0 where
  pub accepted : AcceptedJob (job_of s)
  pub nets_room : s.nnets ≤ 512
  pub blocks_room : s.nblocks ≤ 256
