-- The loop of `jobinput::write_by`: the jobs that the iterator gave are printed.
use Rattle.std.specs.Prelude.{OnOk}
use Rattle.texts.specs.Ends.{texts_of}
use Rattle.jobinput.proofs.Each.{Printing}
use Rattle.jobinput.proofs.write_by.Given as goal

abbrev pub invariant-loop-job : goal.invariant-loop-job
invariant-loop-job g l =
    OnOk l.done (Printing g.J.JobWriter.text (texts_of l.input) (texts_of l.job-iterator.rest.now) (g.W.Write.contents l.initial.out) (g.W.Write.contents l.out))
