-- A job that is stored comes back, so an accepted one meets what the functions on stored jobs ask. Assumes nothing.
use Prim.Native.Nat.{◌-◌}
use mathlib.Core.Path.{◌≡◌, refl}
use lib.ListN.{length, replicate}
use lib.Seq.{take_at}
use Rattle.board.specs.Job.{Job}
use Rattle.board.specs.Stored.{job_of, no_net, no_block, stored_of, AcceptedStored}
use Rattle.board.specs.Accepted.{AcceptedJob}

pub job_back : (job : Job) → job_of (stored_of job) ≡ job
unfolding stored_of
job_back job =
    let n = take_at job.nets (replicate (512 - length job.nets) no_net) (length job.nets) refl in
    let b = take_at job.blocks (replicate (256 - length job.blocks) no_block) (length job.blocks) refl in
    λ i. record { board = job.board; nets = n i; blocks = b i }

pub stored_accepted : (job : Job) → AcceptedJob job → AcceptedStored (stored_of job)
unfolding stored_of
stored_accepted job a =
    record { accepted = rw (job_back job) a; nets_room = a.nets_count; blocks_room = a.blocks_count }
