-- The values of check's answer are those of the answer that the definition gives. Assumes nothing.
use Rattle.std.specs.Prelude.{Result}
use Prim.Native.Nat.{ℕ}
use mathlib.Core.Path.{◌≡◌, refl, subst}
use mathlib.Core.Bool.{Bool, true, false}
use Rattle.std.specs.Int.{from_bool}
use mathlib.Core.List.{List}
use Rattle.jobfile.specs.Read.{read_job}
use Rattle.checker.specs.declared.CheckError.{CheckError}
use Rattle.checker.specs.Answers.{check_answer}
use Rattle.checker.specs.RightVerdict.{RightVerdict}
use Rattle.exports.specs.Exported.{one_if, CheckRepliesWith}

pub check_reply_given : (job layout : List ℕ) (a : Result (Unit {0}) CheckError) → a ≡ check_answer (read_job job) layout → RightVerdict job layout a →
    (n l k : ℕ) → CheckRepliesWith a n l k →
    record {
      answer : CheckRepliesWith (check_answer (read_job job) layout) n l k;
      right : (y : Result (Unit {0}) CheckError) × (CheckRepliesWith y n l k × RightVerdict job layout y);
    }
check_reply_given job layout a q r n l k w =
    record { answer = subst (λ (y : Result (Unit {0}) CheckError). CheckRepliesWith y n l k) q w; right = (a, (w, r)) }

-- a yes or no as the number that the code makes of it
pub one_is : (b : Bool) → from_bool b ≡ one_if b
unfolding one_if
one_is true = refl
one_is false = refl
