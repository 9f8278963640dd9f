-- `jobinput::write_by` meets its contract: before each turn of the loop the jobs passed are printed, if no write failed. Assumes nothing.
use Rattle.jobinput.proofs.Each.{printing_start, printing_more, printing_end, both_done, on_done}
use Rattle.jobinput.proofs.write_by.Goals as goal

pub loop-job-init : goal.loop-job-init
loop-job-init g c = rw (c.into_iter-job-iterator.ensures.into_iter_gives, c.new-job-items.ensures) printing_start

pub loop-job-preserved : goal.loop-job-preserved
loop-job-preserved g c =
    rw c.and-done.ensures (both_done c.loop-job.done c.write.result c.loop-job.invariant c.write.ensures (λ p q. printing_more c.in-Some.ensures.steps p q))

pub returns : goal.returns
returns g c = on_done c.loop-job.done c.loop-job.invariant (λ p. printing_end c.in-None.ensures.steps.0 p)
