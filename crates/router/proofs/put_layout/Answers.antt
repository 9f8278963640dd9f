-- `router::put_layout` meets its contract: what is drawn is the text that route writes, and is copied. Assumes nothing.
use native.Mathlib.Omega.{arith}
use Rattle.router.proofs.Answering.{plan_can, plan_short, drawn_text}
use Rattle.router.proofs.put_layout.Goals as goal

pub draw-needed-requires : goal.draw-needed-requires
draw-needed-requires c =
    let p = c.plan_job-plan.ensures.answer in
    record {
      drawable_plan = plan_can c.args.job.now c.requires _ p;
      plan_in_bounds = omega (arith, plan_short c.args.job.now c.requires _ p);
    }

pub returns : goal.returns
returns c =
    let job = c.args.job.now in
    let e = drawn_text job c.requires _ c.plan_job-plan.ensures.answer c.draw-needed.ensures in
    let w = c.put_answer.ensures in record {
      answer = rw (← e) w.answer;
      buffer = rw (← e) w.buffer;
    }
