-- The job by value: its arrays are full, and a net or block more goes into the first unused slot. Assumes
-- nothing.
use Prim.Native.Nat.{ℕ, suc, ◌+◌, ◌-◌, ◌<◌}
use mathlib.Core.Path.{◌≡◌, refl, sym, ◌∙◌}
use mathlib.Core.List.{List, [], ◌∷◌, ◌++◌, append_assoc}
use native.Mathlib.Omega.{arith}
use lib.ListN.{length, replicate, set, length-append}
use lib.Seq.{set_at}
use Rattle.board.specs.declared.Net.{Net}
use Rattle.board.specs.declared.Block.{Block}
use Rattle.board.specs.Job.{Job}
use Rattle.jobfile.specs.Read.{with_net, with_block}
use Rattle.board.specs.Stored.{stored_of, no_net, no_block}

module _ {A : Type 0} (most : ℕ) (xs : List A) (none : A) where
  -- a list filled up to its full length
  abbrev filled_up : List A
  filled_up = xs ++ replicate (most - length xs) none

  -- one more element takes the first slot that is not used
  filled_next : (x : A) → length xs < most →
      set filled_up (length xs) x ≡ (xs ++ (x ∷ [])) ++ replicate (most - length (xs ++ (x ∷ []))) none
  filled_next x h =
      let r = most - suc (length xs) in
      let e : most - length xs ≡ suc r = omega arith in
      let g : most - length (xs ++ (x ∷ [])) ≡ r = omega (arith, length-append xs (x ∷ [])) in
      rw (e, g) (set_at xs none (replicate r none) x (length xs) refl ∙ sym (append_assoc xs (x ∷ []) (replicate r none)))

-- a net more, and a block more
pub stored_net : (job : Job) (n : Net) → length job.nets < 512 →
    stored_of (with_net job n) ≡
    record {
      board = (stored_of job).board;
      nnets = (stored_of job).nnets + 1;
      nblocks = (stored_of job).nblocks;
      nets = set (stored_of job).nets (stored_of job).nnets n;
      blocks = (stored_of job).blocks;
    }
unfolding stored_of
stored_net job n h =
    λ i. record {
      board = job.board;
      nnets = length-append job.nets (n ∷ []) i;
      nblocks = length job.blocks;
      nets = sym (filled_next 512 job.nets no_net n h) i;
      blocks = (stored_of job).blocks;
    }

pub stored_block : (job : Job) (b : Block) → length job.blocks < 256 →
    stored_of (with_block job b) ≡
    record {
      board = (stored_of job).board;
      nnets = (stored_of job).nnets;
      nblocks = (stored_of job).nblocks + 1;
      nets = (stored_of job).nets;
      blocks = set (stored_of job).blocks (stored_of job).nblocks b;
    }
unfolding stored_of
stored_block job b h =
    λ i. record {
      board = job.board;
      nnets = length job.nets;
      nblocks = length-append job.blocks (b ∷ []) i;
      nets = (stored_of job).nets;
      blocks = sym (filled_next 256 job.blocks no_block b h) i;
    }
