-- `jobsteps::take_line` meets its contract: H and K, and what a net or a block adds. Assumes nothing.
use mathlib.Core.Path.{refl}
use Rattle.std.proofs.lemmas.Result.{err_from_is_err_and}
use Rattle.jobsteps.proofs.Taking.{rows_refused, tracks_refused, rows_taken, tracks_taken, held_filled, net_led, block_led, kept_beside}
use Rattle.jobsteps.proofs.take_line.Goals as goal

pub returns-in_err-size_outcome-in-Opened-Rows : goal.returns-in_err-size_outcome-in-Opened-Rows
returns-in_err-size_outcome-in-Opened-Rows c =
    let q = err_from_is_err_and c.from_residual.result c.from_residual.ensures.1 in
    record {
      taken = λ h. rw (q.1, q.2) (rows_refused _ _ _ _ _ _ c.in-Opened-Rows.is-0 c.in-Opened-Rows.is-1 (c.in_err-size_outcome-in-Opened-Rows.ensures _));
      kept = rw q.1 (refl, refl);
    }

pub returns-in_err-size_outcome-in-Sized-Tracks : goal.returns-in_err-size_outcome-in-Sized-Tracks
returns-in_err-size_outcome-in-Sized-Tracks c =
    let q = err_from_is_err_and c.from_residual-in_err-size_outcome-in-Sized-Tracks.result c.from_residual-in_err-size_outcome-in-Sized-Tracks.ensures.1 in
    record {
      taken = λ h. rw (q.1, q.2) (tracks_refused _ _ _ _ _ _ _ c.in-Sized-Tracks.is-0 c.in-Sized-Tracks.is-1 (c.in_err-size_outcome-in-Sized-Tracks.ensures _));
      kept = rw q.1 (refl, refl);
    }

pub returns-in_ok-size_outcome-in-Opened-Rows : goal.returns-in_ok-size_outcome-in-Opened-Rows
returns-in_ok-size_outcome-in-Opened-Rows c =
    record {
      taken = λ h. rows_taken _ _ _ _ _ h _ c.in-Opened-Rows.is-0 c.in-Opened-Rows.is-1 (c.in_ok-size_outcome-in-Opened-Rows.ensures _);
      kept = tt;
    }

pub returns-in_ok-size_outcome-in-Sized-Tracks : goal.returns-in_ok-size_outcome-in-Sized-Tracks
returns-in_ok-size_outcome-in-Sized-Tracks c =
    record {
      taken = λ h. tracks_taken _ _ _ _ _ h _ _ c.in-Sized-Tracks.is-0 c.in-Sized-Tracks.is-1 (c.in_ok-size_outcome-in-Sized-Tracks.ensures _);
      kept = tt;
    }

pub returns-in-Filled-Net : goal.returns-in-Filled-Net
returns-in-Filled-Net c =
    record {
      taken = λ h.
          rw (net_led _ _ _ _ _ _ _ _ _ _ _ c.in-Filled-Net.is-0 c.in-Filled-Net.is-1 c.net_on_line-net.ensures)
          (c.add_net.ensures.taken (held_filled _ _ _ h c.in-Filled-Net.is-0));
      kept = c.add_net.ensures.kept;
    }

pub returns-in-Filled-Block : goal.returns-in-Filled-Block
returns-in-Filled-Block c =
    record {
      taken = λ held.
          let h = held_filled _ _ _ held c.in-Filled-Block.is-0 in
          rw (block_led _ _ _ _ _ _ _ _ c.in-Filled-Block.is-0 c.in-Filled-Block.is-1 c.block_on_line.ensures) (c.add_block.ensures.taken h.job_is _ h.nets_are);
      kept = kept_beside c.args.nets.now _ _ c.add_block.result c.add_block.ensures.kept;
    }
