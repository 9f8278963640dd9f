-- The slots of a job by value: how many there are, which nets and blocks they hold, and how one more of them is stored. Assumes nothing.
use Prim.Native.Nat.{ℕ, ◌+◌, ◌-◌, ◌≤◌, ◌<◌}
use mathlib.Core.Path.{◌≡◌, sym, ap, ◌∙◌}
use mathlib.Core.List.{List, ◌++◌}
use native.Mathlib.Omega.{arith}
use lib.ListN.{length, take, replicate, set, length-append, length-replicate}
use Rattle.board.specs.declared.Net.{Net}
use Rattle.board.specs.declared.Block.{Block}
use Rattle.board.specs.declared.StoredJob.{StoredJob}
use Rattle.board.specs.Stored.{job_of, stored_of, no_net, no_block}
use Rattle.jobfile.specs.Read.{with_net, with_block}
use Rattle.jobfile.proofs.StoredJobs.{stored_net, stored_block}
use Rattle.jobsteps.specs.LinesAbove.{Filled}

-- used slots, and empty ones behind them to the most that there are
slots_room : {A : Type 0} (slots : List A) (used most : ℕ) (empty : A) → length (take used slots) ≡ used → used ≤ most →
    take used slots ++ replicate (most - length (take used slots)) empty ≡ slots → length slots ≡ most
slots_room slots used most empty u h e =
    let r = most - length (take used slots) in
    omega (arith, u, ap length e, length-append (take used slots) (replicate r empty), length-replicate r empty)

module _ (job : StoredJob) (f : Filled job) where
  -- the used slots are as many as counted
  pub nets_used : length (job_of job).nets ≡ job.nnets
  unfolding stored_of
  nets_used = ap (λ (s : StoredJob). s.nnets) f.stored

  pub blocks_used : length (job_of job).blocks ≡ job.nblocks
  unfolding stored_of
  blocks_used = ap (λ (s : StoredJob). s.nblocks) f.stored

  -- and the slots are 512 and 256
  pub nets_room : length job.nets ≡ 512
  unfolding stored_of
  nets_room = slots_room job.nets job.nnets 512 no_net nets_used f.nets_count (ap (λ (s : StoredJob). s.nets) f.stored)

  pub blocks_room : length job.blocks ≡ 256
  unfolding stored_of
  blocks_room = slots_room job.blocks job.nblocks 256 no_block blocks_used f.blocks_count (ap (λ (s : StoredJob). s.blocks) f.stored)

  -- one more takes the first slot that is not used
  pub net_more : (n : Net) → job.nnets < 512 →
      record {
        board = job.board;
        nnets = job.nnets + 1;
        nblocks = job.nblocks;
        nets = set job.nets job.nnets n;
        blocks = job.blocks;
      } ≡
      stored_of (with_net (job_of job) n)
  net_more n h =
      sym
      (stored_net (job_of job) n (omega (arith, nets_used))
      ∙ ap
      (λ (s : StoredJob). record {
        board = s.board;
        nnets = s.nnets + 1;
        nblocks = s.nblocks;
        nets = set s.nets s.nnets n;
        blocks = s.blocks;
      })
      f.stored)

  pub block_more : (b : Block) → job.nblocks < 256 →
      record {
        board = job.board;
        nnets = job.nnets;
        nblocks = job.nblocks + 1;
        nets = job.nets;
        blocks = set job.blocks job.nblocks b;
      } ≡
      stored_of (with_block (job_of job) b)
  block_more b h =
      sym
      (stored_block (job_of job) b (omega (arith, blocks_used))
      ∙ ap
      (λ (s : StoredJob). record {
        board = s.board;
        nnets = s.nnets;
        nblocks = s.nblocks + 1;
        nets = s.nets;
        blocks = set s.blocks s.nblocks b;
      })
      f.stored)
