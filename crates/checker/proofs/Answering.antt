-- The answers of check, case by case. Assumes nothing.
use Rattle.std.specs.Prelude.{Result, Err}
use Prim.Native.Nat.{ℕ, ◌≤◌, ◌<◌}
use mathlib.Core.Path.{◌≡◌}
use mathlib.Core.List.{List}
use lib.ListN.{length}
use borrow.Author.Tests.{le-leb, lt-leb}
use Rattle.board.specs.Job.{Job}
use Rattle.jobfile.specs.declared.Refusal.{Refusal}
use Rattle.jobfile.specs.Read.{Read, accepted, refused}
use Rattle.drc.specs.Judge.{judge}
use Rattle.checker.specs.declared.CheckError.{CheckError}
use Rattle.checker.specs.declared.CheckError.TheVariants.{Refused, LayoutTooLong}
use Rattle.checker.specs.Answers.{verdict_answer, check_answer}

module _ (y : Read) (layout : List ℕ) where
  pub answer_refused : (o : Refusal) → y ≡ refused o → Err (Refused o) ≡ check_answer y layout
  unfolding check_answer
  answer_refused o e = rw e

  pub answer_long : (job : Job) → y ≡ accepted job → 64000 < length layout → Err LayoutTooLong ≡ check_answer y layout
  unfolding check_answer
  answer_long job e h = rw (e, lt-leb (length layout) 64000 h)

  pub answer_judged : (job : Job) (r : Result (Unit {0}) CheckError) → y ≡ accepted job → length layout ≤ 64000 → r ≡ verdict_answer (judge job layout) → r ≡ check_answer y layout
  unfolding check_answer
  answer_judged job r e h f = rw (e, le-leb (length layout) 64000 h) f
