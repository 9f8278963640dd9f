-- What stands in the buffer after an operation that writes a text is what the program prints, or the line of the refusal fits there. Assumes
-- nothing.
use Rattle.std.specs.Prelude.{Result, Ok}
use Prim.Native.Nat.{ℕ, ◌≤◌}
use mathlib.Core.Path.{◌≡◌, refl}
use mathlib.Core.List.{List}
use mathlib.Core.Bool.{true}
use native.Mathlib.Omega.{arith}
use lib.Dec.{leb}
use lib.ListN.{length, take}
use borrow.Author.Tests.{le-leb}
use Rattle.board.specs.Job.{Job}
use Rattle.board.specs.Accepted.{AcceptedJob}
use Rattle.text.specs.Written.{Written, over}
use Rattle.text.proofs.Writing.{start_written}
use Rattle.jobfile.specs.Read.{Read, accepted, refused, read_job}
use Rattle.jobfile.specs.OfAccepted.{OfAccepted}
use Rattle.jobfile.proofs.Accepts.{read_accepted}
use Rattle.reader.proofs.Reports.{refused_short}
use Rattle.answers.specs.declared.TextRefusal.{TextRefusal}
use Rattle.answers.specs.Answers.{answer_for, buffer_for, text_answer, buffer_after}
use Rattle.printing.specs.Printed.{printed_text, RefusalFits, Reported}

module _ (text : Job → List ℕ) (short : (job : Job) → AcceptedJob job → length (text job) ≤ 64000) (file before : List ℕ) (room : length before ≡ 64000) where
  -- every text fits
  text_fits : (job : Job) → read_job file ≡ accepted job → leb (length (text job)) (length before) ≡ true
  text_fits job e = le-leb (length (text job)) (length before) (omega (arith, short job (read_accepted file job e)))

  -- the line of a refusal has room, by what the file is read as
  fits_by : (y : Read) → read_job file ≡ y → RefusalFits (text_answer text y (length before)) (buffer_after text y before)
  unfolding text_answer answer_for buffer_after
  fits_by (accepted job) e = rw (text_fits job e) tt
  fits_by (refused o) e = omega (arith, refused_short file o e)

  -- what the buffer becomes is what is printed
  printed_by : (y : Read) → read_job file ≡ y → {last : List ℕ} {r : ℕ} → Reported (text_answer text y (length before)) (buffer_after text y before) last r →
      Written (printed_text text y) before last r
  unfolding text_answer answer_for buffer_after buffer_for printed_text
  printed_by (accepted job) e {last} {r} w =
      let h : Reported (Ok (length (text job))) (over (text job) before) last r = rw (text_fits job e) at w in
      record { used = h.0; bytes = h.1 }
  printed_by (refused o) e w = w

  -- what the code holds: the answer and the buffer afterwards
  module _ {a : Result ℕ TextRefusal} {after : List ℕ} (e : a ≡ text_answer text (read_job file) (length before)) (f : after ≡ buffer_after text (read_job file) before) where
    pub refusal_fits : RefusalFits a after
    refusal_fits = rw (e, f) (fits_by (read_job file) refl)

    pub report_printed : {last : List ℕ} {r : ℕ} → Reported a after last r → Written (printed_text text (read_job file)) before last r
    report_printed {last} {r} w =
        let h : Reported (text_answer text (read_job file) (length before)) (buffer_after text (read_job file) before) last r = rw (e, f) at w in
        printed_by (read_job file) refl h

-- what holds of the text of every accepted job holds of what is printed, where the file is accepted
module _ (text : Job → List ℕ) (file before : List ℕ) {last : List ℕ} {r : ℕ} (w : Written (printed_text text (read_job file)) before last r)
    (P : Job → List ℕ → Type 0) (p : (job : Job) → AcceptedJob job → P job (text job)) where
  held_by : (y : Read) → read_job file ≡ y → (bytes : List ℕ) → bytes ≡ printed_text text y → OfAccepted (λ j. P j bytes) y
  unfolding printed_text
  held_by (accepted job) e bytes q = rw q (p job (read_accepted file job e))
  held_by (refused o) e bytes q = tt

  pub held_printed : OfAccepted (λ j. P j (take r last)) (read_job file)
  held_printed = held_by (read_job file) refl (take r last) (start_written w)
