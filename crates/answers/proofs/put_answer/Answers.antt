-- `answers::put_answer` meets its contract. Assumes nothing.
use mathlib.Core.Path.{refl}
use Rattle.answers.proofs.ByRoom.{small_for, written_for}
use Rattle.answers.proofs.put_answer.Goals as goal

pub returns-then-out-needed : goal.returns-then-out-needed
returns-then-out-needed c =
    let p = small_for c.args.bytes.now c.args.out.now refl c.if-out-needed.true in
    record { answer = p.0; buffer = p.1 }

pub returns : goal.returns
returns c =
    let p = written_for _ _ c.put_bytes.ensures c.if-out-needed.false in
    record { answer = p.0; buffer = p.1 }
