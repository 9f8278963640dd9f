-- What is promised of the line that is printed, taken out clause by clause: none of them asks less than its words say. Assumes nothing.
use mathlib.Core.Path.{◌≡◌}
use lib.ListN.{take, replicate}
use Rattle.text.specs.Written.{over}
use Rattle.jobfile.specs.Read.{read_job}
use Rattle.checker.specs.Answers.{check_answer}
use Rattle.verdicts.specs.Verdicts.{check_text}
use Rattle.files.specs.FileTexts.{text_of}
use Rattle.text.proofs.Writing.{start_written}
use Rattle.checkfiles.specs.declared.CheckedFiles.{CheckedFiles}
use Rattle.checkfiles.specs.LineOfFiles.{LineOfFiles}

module _ (c : CheckedFiles) (h : LineOfFiles c) where
  -- the bytes that are printed are the verdict on the layout's text for the job's text
  pub line_is : take c.line.used c.line.bytes ≡ check_text (check_answer (read_job (text_of c.job)) (text_of c.layout))
  line_is = start_written h

  -- every byte of the buffer: what is printed, and behind it 0
  pub bytes_are : c.line.bytes ≡ over (check_text (check_answer (read_job (text_of c.job)) (text_of c.layout))) (replicate 64 0)
  bytes_are = h.bytes
