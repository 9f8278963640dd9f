-- What one more net or block of a line comes to. Assumes nothing.
use Rattle.std.specs.Prelude.{Option, Result, Ok, Err}
use Prim.Native.Nat.{ℕ, ◌+◌, ◌<◌}
use mathlib.Core.Path.{◌≡◌, refl, sym, ap, ◌∙◌}
use mathlib.Core.List.{List, [], ◌∷◌, ◌++◌}
use native.Mathlib.Omega.{arith}
use lib.Dec.{ltb}
use lib.ListN.{length, set}
use Rattle.board.specs.declared.Board.{Board}
use Rattle.board.specs.declared.Net.{Net}
use Rattle.board.specs.declared.Block.{Block}
use Rattle.board.specs.declared.StoredJob.{StoredJob}
use Rattle.board.specs.Job.{Job}
use Rattle.board.specs.Stored.{job_of, stored_of}
use Rattle.board.specs.Accepted.{BoardInRange, NetInRange}
use Rattle.board.proofs.StoredJobs.{job_back}
use Rattle.jobfile.specs.declared.Refusal.{Refusal}
use Rattle.jobfile.specs.Read.{State, start, Next, stop, with_weight, with_net, with_block, test_net, is_above, add_net, add_block}
use Rattle.jobfile.proofs.Tests.{net_range_is, last_number_lem}
use Rattle.jobrules.specs.declared.UsedPins.{UsedPins}
use Rattle.jobrules.specs.Rules.{outcome_of, RowsInRange, PinsOf, NetsAbove}
use Rattle.jobrules.proofs.Pins.{rows_in_range}
use Rattle.jobrules.proofs.Outcomes.{Passes, weight_same, net_few, net_ranged, net_goes, block_few, block_goes}
use Rattle.jobsteps.specs.LinesAbove.{state_of, Filled, NetsAre, Held, Taken}
use Rattle.jobsteps.specs.declared.NetsRead.{NetsRead}
use Rattle.jobsteps.specs.declared.Stage.TheVariants as At
use Rattle.jobsteps.proofs.Slots.{nets_used, blocks_used, net_more, block_more}
use Rattle.jobsteps.proofs.Taking.{stops_by}

-- the rows of a net that is in range on a board in range, whatever weight it is given
pub weighted_rows : (board : Board) (given : Net) (w : Option ℕ) → BoardInRange board → NetInRange board given → RowsInRange (with_weight board given w)
weighted_rows board given w b r =
    rows_in_range board (with_weight board given w) b
    (record { number_range = r.number_range; left_range = r.left_range; right_range = r.right_range; bounds_range = r.bounds_range })

-- a net and the weight that its line gives, and the outcome r of its tests
module _ (k : ℕ) (a : NetsRead) (job : StoredJob) (h : Held At.Filled a job) (given : Net) (w : Option ℕ) (r : Result (Unit {0}) Refusal) (t : (j : Job) (s : State) → NetsAbove j job.board job.nnets a.used → r ≡ outcome_of (test_net k (ltb a.last given.number) given w j s)) where
  -- the net with its weight, and what its line leads to
  abbrev n : Net
  n = with_weight job.board given w

  abbrev led : Next
  led = add_net k n w (job_of job)

  net_outcome : r ≡ outcome_of led
  unfolding add_net is_above
  net_outcome =
      t (job_of job) start (record { size_is = refl; count_is = nets_used job h.job_is; pins = h.nets_are.pins })
      ∙ rw (← h.nets_are.last_is) (weight_same k _ job.board given w (job_of job) start _)

  pub net_refused : (o : Refusal) → Err o ≡ r → led ≡ stop o
  net_refused o e = stops_by led o (e ∙ net_outcome)

  module _ (e : Ok tt ≡ r) where
    passes : Passes led
    passes = sym (e ∙ net_outcome)

    pub net_room : job.nnets < 512
    net_room = omega (arith, nets_used job h.job_is, net_few k n w (job_of job) passes)

    n_in_range : NetInRange job.board n
    n_in_range = ((net_range_is job.board n w).0 (net_ranged k n w (job_of job) passes)).0

    pub given_in_range : NetInRange job.board given
    given_in_range =
        let x = n_in_range in
        record { number_range = x.number_range; left_range = x.left_range; right_range = x.right_range; bounds_range = x.bounds_range }

    pub net_rows : RowsInRange n
    net_rows = rows_in_range job.board n h.job_is.board_range n_in_range

    pub net_added : (used : UsedPins) → ((nets : List Net) → PinsOf nets a.used → PinsOf (nets ++ (n ∷ [])) used) →
        Taken led (Ok At.Filled) (record { last = n.number; used = used })
        (record { board = job.board; nnets = job.nnets + 1; nblocks = job.nblocks; nets = set job.nets job.nnets n; blocks = job.blocks })
    unfolding state_of
    net_added used p =
        let m : StoredJob = record { board = job.board; nnets = job.nnets + 1; nblocks = job.nblocks; nets = set job.nets job.nnets n; blocks = job.blocks } in
        let v : m ≡ stored_of (with_net (job_of job) n) = net_more job h.job_is n net_room in
        let j : job_of m ≡ with_net (job_of job) n = ap job_of v ∙ job_back (with_net (job_of job) n) in
        let q : (job_of m).nets ≡ (job_of job).nets ++ (n ∷ []) = ap (λ (x : Job). x.nets) j in (
          net_goes k n w (job_of job) passes ∙ rw j,
          record {
            job_is =
                record { stored = ap stored_of j ∙ sym v; board_range = h.job_is.board_range; nets_count = omega (arith, net_room); blocks_count = h.job_is.blocks_count };
            nets_are = rw q (record { last_is = last_number_lem 0 (job_of job).nets n; pins = p (job_of job).nets h.nets_are.pins });
          },
        )

-- a block, and the outcome r of its tests
module _ (k : ℕ) (job : StoredJob) (f : Filled job) (b : Block) (r : Result (Unit {0}) Refusal) (t : (j : Job) → j.board ≡ job.board → length j.blocks ≡ job.nblocks → r ≡ outcome_of (add_block k b j)) where
  block_outcome : r ≡ outcome_of (add_block k b (job_of job))
  block_outcome = t (job_of job) refl (blocks_used job f)

  pub block_refused : (o : Refusal) → Err o ≡ r → add_block k b (job_of job) ≡ stop o
  block_refused o e = stops_by _ o (e ∙ block_outcome)

  module _ (e : Ok tt ≡ r) where
    block_passes : Passes (add_block k b (job_of job))
    block_passes = sym (e ∙ block_outcome)

    pub block_room : job.nblocks < 256
    block_room = omega (arith, blocks_used job f, block_few k b (job_of job) block_passes)

    pub block_added : (a : NetsRead) → NetsAre (job_of job).nets a →
        Taken (add_block k b (job_of job)) (Ok At.Filled) a
        (record { board = job.board; nnets = job.nnets; nblocks = job.nblocks + 1; nets = job.nets; blocks = set job.blocks job.nblocks b })
    unfolding state_of
    block_added a p =
        let m : StoredJob = record { board = job.board; nnets = job.nnets; nblocks = job.nblocks + 1; nets = job.nets; blocks = set job.blocks job.nblocks b } in
        let v : m ≡ stored_of (with_block (job_of job) b) = block_more job f b block_room in
        let j : job_of m ≡ with_block (job_of job) b = ap job_of v ∙ job_back (with_block (job_of job) b) in (
          block_goes k b (job_of job) block_passes ∙ rw j,
          record {
            job_is =
                record { stored = ap stored_of j ∙ sym v; board_range = f.board_range; nets_count = f.nets_count; blocks_count = omega (arith, block_room) };
            nets_are = p;
          },
        )
