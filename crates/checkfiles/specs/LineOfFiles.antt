-- The line that is printed for two files.
use Rattle.std.specs.Prelude.{replicate}
use Rattle.text.specs.Written.{Written}
use Rattle.jobfile.specs.Read.{read_job}
use Rattle.checker.specs.Answers.{check_answer}
use Rattle.verdicts.specs.Verdicts.{check_text}
use Rattle.files.specs.FileTexts.{text_of}
use Rattle.checkfiles.specs.declared.CheckedFiles.{CheckedFiles}

-- the line is the verdict on the two texts that were read
abbrev pub LineOfFiles : CheckedFiles → Type 0
LineOfFiles c =
    Written (check_text (check_answer (read_job (text_of c.job)) (text_of c.layout))) (replicate 64 0) c.line.bytes c.line.used
