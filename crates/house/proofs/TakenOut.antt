-- What the promises of the fixed text say: one job alone can be read back, and each other clause says what its words say. Assumes nothing.
use Prim.Native.Nat.{ℕ, ◌<◌}
use mathlib.Core.Path.{◌≡◌, sym, ap, ◌∙◌}
use mathlib.Core.List.{List, Permᴰ}
use lib.ListN.{length}
use Rattle.lists.specs.Lists.{EachPair}
use Rattle.board.specs.Job.{Job}
use Rattle.board.specs.Accepted.{AcceptedJob}
use Rattle.jobfile.specs.Read.{accepted, read_job}
use Rattle.house.specs.Blocks.{sort_blocks}
use Rattle.house.specs.HouseText.{house_text, house_job, SameJob}
use Rattle.house.specs.Promises.{IsFixed, FixedLength, ReadsBack, OneText, FixedAgain}
use Rattle.house.proofs.BlockTimes.{sorted_times}
use Rattle.house.proofs.BlockOrder.{one_order, sorted}
use Rattle.house.proofs.HouseRead.{read_one}

module _ (job : Job) (text : List ℕ) where
  module _ (r : ReadsBack job text) where
    -- the job that is read back has the board and the nets of the job, and its blocks in order
    back_is : r.back ≡ house_job job
    back_is =
        let e = one_order r.back.blocks (sort_blocks job.blocks) r.blocks_sorted (sorted job.blocks) (λ b. r.blocks_often b ∙ sym (sorted_times job.blocks b)) in
        λ i. record { board = r.board_same i; nets = r.nets_same i; blocks = e i }

    pub back_only : read_job text ≡ accepted (house_job job)
    back_only = r.read_as ∙ ap accepted back_is

    pub back_rising : EachPair (λ m n. m.number < n.number) r.back.nets
    back_rising = r.nets_rise

    pub back_moved : Permᴰ r.back.blocks job.blocks
    back_moved = r.blocks_moved

  -- a job with this text agrees, and one that agrees has it
  pub same_text_agrees : OneText job text → (other : Job) → AcceptedJob other → text ≡ house_text other → SameJob job other
  same_text_agrees h other a = (h other a).0

  pub agreeing_same_text : OneText job text → (other : Job) → AcceptedJob other → SameJob job other → text ≡ house_text other
  agreeing_same_text h other a = (h other a).1

  pub fixed_is : IsFixed job text → text ≡ house_text job
  fixed_is h = h

  pub length_is : (n : ℕ) → FixedLength job n → n ≡ length (house_text job)
  length_is n h = h

-- whatever the text is read as, it is the fixed text of that
pub again_is : (text : List ℕ) → FixedAgain text → (back : Job) → read_job text ≡ accepted back → text ≡ house_text back
again_is text h back e = h.1.1 ∙ ap house_text (read_one (sym h.1.0 ∙ e))
