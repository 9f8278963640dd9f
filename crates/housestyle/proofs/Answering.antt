-- What house promises, from its answer and its buffer by equation. Assumes nothing.
use Rattle.std.specs.Prelude.{Result}
use Prim.Native.Nat.{ℕ}
use mathlib.Core.Path.{◌≡◌, refl}
use mathlib.Core.List.{List}
use lib.ListN.{length}
use Rattle.board.specs.Job.{Job}
use Rattle.board.specs.Accepted.{AcceptedJob}
use Rattle.jobfile.specs.Read.{read_job}
use Rattle.house.specs.HouseText.{house_text}
use Rattle.house.specs.Promises.{IsFixed, FixedLength, ReadsBack, OneText, FixedAgain}
use Rattle.house.proofs.HouseRead.{house_short}
use Rattle.house.proofs.Promised.{house_back, house_one, house_again}
use Rattle.answers.specs.declared.TextRefusal.{TextRefusal}
use Rattle.answers.specs.Answers.{answer_values, document_values, text_answer, RightFor, buffer_after, OfWritten}
use Rattle.answers.proofs.Answering.{Given, values_given, right_given, held_given}

-- all that house promises of its answer and of the buffer afterwards
abbrev pub Promised : List ℕ → List ℕ → Result ℕ TextRefusal → List ℕ → Type 0
Promised file before r after =
    record {
      answer : r ≡ text_answer house_text (read_job file) (length before);
      values : answer_values r ≡ document_values house_text (read_job file) (length before);
      right : RightFor FixedLength file (length before) r;
      buffer : after ≡ buffer_after house_text (read_job file) before;
      fixed : OfWritten IsFixed (read_job file) r after;
      read_back : OfWritten ReadsBack (read_job file) r after;
      one_text : OfWritten OneText (read_job file) r after;
      again : OfWritten (λ j text. FixedAgain text) (read_job file) r after;
    }

pub promised : (file before : List ℕ) {r : Result ℕ TextRefusal} {after : List ℕ} → Given house_text file before r after → Promised file before r after
promised file before g =
    let held : (P : Job → List ℕ → Type 0) → ((job : Job) → AcceptedJob job → P job (house_text job)) → OfWritten P (read_job file) _ _ = held_given house_text file before g in
    record {
      answer = g.0;
      values = values_given house_text file before g;
      right = right_given house_text file before g FixedLength house_short (λ j a. refl);
      buffer = g.1;
      fixed = held IsFixed (λ j a. refl);
      read_back = held ReadsBack house_back;
      one_text = held OneText house_one;
      again = held (λ j text. FixedAgain text) house_again;
    }
