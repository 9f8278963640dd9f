-- The numbers handed out are the values of the answer that the definition gives, and what holds of the text written holds of the bytes
-- handed out. Assumes nothing.
use Rattle.std.specs.Prelude.{Result, Ok, Err}
use Prim.Native.Nat.{ℕ}
use mathlib.Core.Path.{◌≡◌, refl, subst}
use mathlib.Core.List.{List}
use native.Mathlib.Omega.{arith}
use lib.ListN.{length, take}
use Rattle.board.specs.Job.{Job}
use Rattle.jobfile.specs.Read.{Read, accepted, refused, read_job}
use Rattle.jobfile.specs.OfAccepted.{OfAccepted}
use Rattle.jobfile.proofs.Refusals.{read_faultless}
use Rattle.planning.specs.Plan.{plan_of}
use Rattle.sound.specs.Sound.{Sound}
use Rattle.routing.specs.Promises.{ShortestText, UnbeatenText}
use Rattle.routing.specs.Route.{route_text}
use Rattle.answers.specs.declared.TextRefusal.{TextRefusal}
use Rattle.answers.specs.declared.TextRefusal.TheVariants.{Refused, TooSmall}
use Rattle.answers.specs.Answers.{answer_values, text_answer, RightFor, buffer_after, OfWritten}
use Rattle.router.specs.LayoutLength.{LayoutLength}
use Rattle.router.proofs.Answering.{Promised}
use Rattle.house.specs.HouseText.{house_text}
use Rattle.house.specs.Promises.{IsFixed, FixedLength, ReadsBack, OneText, FixedAgain}
use Rattle.housestyle.proofs.Answering.{Promised as HousePromised}
use Rattle.exports.specs.Exported.{RepliesWith}

module _ (Length : Job → ℕ → Type 0) (file : List ℕ) (room : ℕ) (after : List ℕ) (a : Result ℕ TextRefusal) (right : RightFor Length file room a) (n l b : ℕ)
    (e : n ≡ (answer_values a).number) (f : l ≡ (answer_values a).line) (g : b ≡ (answer_values a).bytes) where
  handed_by : (P : Job → List ℕ → Type 0) (y : Read) → read_job file ≡ y → (x : Result ℕ TextRefusal) → RightFor Length file room x → OfWritten P y x after →
      n ≡ (answer_values x).number → b ≡ (answer_values x).bytes → n ≡ 0 → OfAccepted (λ j. P j (take b after)) y
  handed_by P (accepted job) q (Ok m) r w h k z = rw k w
  handed_by P (accepted job) q (Err (TooSmall m)) r w h k z = absurd (omega (arith, h, z))
  handed_by P (accepted job) q (Err (Refused o)) r w h k z = absurd (read_faultless file job q o r.fault)
  handed_by P (refused o) q x r w h k z = tt

  -- what holds of the text written holds of the bytes handed out
  pub handed : (P : Job → List ℕ → Type 0) → OfWritten P (read_job file) a after → n ≡ 0 → OfAccepted (λ j. P j (take b after)) (read_job file)
  handed P w = handed_by P (read_job file) refl a right w e g

  -- the numbers handed out are the values of the answer, which is the one that the definition gives, and right
  pub replied : (x : Result ℕ TextRefusal) → a ≡ x → RepliesWith x n l b × ((y : Result ℕ TextRefusal) × (RepliesWith y n l b × RightFor Length file room y))
  replied x q =
      let told : RepliesWith a n l b = record { number_is = e; line_is = f; bytes_is = g } in
      (subst (λ (y : Result ℕ TextRefusal). RepliesWith y n l b) q told, (a, (told, right)))

-- of route
pub reply_given : (file before : List ℕ) (a : Result ℕ TextRefusal) (after : List ℕ) → Promised file before a after → (n l b : ℕ) →
    n ≡ (answer_values a).number → l ≡ (answer_values a).line → b ≡ (answer_values a).bytes →
    record {
      answer : RepliesWith (text_answer route_text (read_job file) (length before)) n l b;
      right : (y : Result ℕ TextRefusal) × (RepliesWith y n l b × RightFor LayoutLength file (length before) y);
      buffer : after ≡ buffer_after route_text (read_job file) before;
      shortest : n ≡ 0 → OfAccepted (λ j. ShortestText j (plan_of j) (take b after)) (read_job file);
      sound : n ≡ 0 → OfAccepted (λ j. Sound j (take b after)) (read_job file);
      unbeaten : n ≡ 0 → OfAccepted (λ j. UnbeatenText j (take b after)) (read_job file);
    }
reply_given file before a after p n l b e f g =
    let told = replied LayoutLength file (length before) after a p.right n l b e f g _ p.answer in
    let out = handed LayoutLength file (length before) after a p.right n l b e f g in
    record {
      answer = told.0;
      right = told.1;
      buffer = p.buffer;
      shortest = out (λ j text. ShortestText j (plan_of j) text) p.shortest;
      sound = out (λ j text. Sound j text) p.sound;
      unbeaten = out (λ j text. UnbeatenText j text) p.unbeaten;
    }

-- of house
pub house_given : (file before : List ℕ) (a : Result ℕ TextRefusal) (after : List ℕ) → HousePromised file before a after → (n l b : ℕ) →
    n ≡ (answer_values a).number → l ≡ (answer_values a).line → b ≡ (answer_values a).bytes →
    record {
      answer : RepliesWith (text_answer house_text (read_job file) (length before)) n l b;
      right : (y : Result ℕ TextRefusal) × (RepliesWith y n l b × RightFor FixedLength file (length before) y);
      buffer : after ≡ buffer_after house_text (read_job file) before;
      fixed : n ≡ 0 → OfAccepted (λ j. IsFixed j (take b after)) (read_job file);
      read_back : n ≡ 0 → OfAccepted (λ j. ReadsBack j (take b after)) (read_job file);
      one_text : n ≡ 0 → OfAccepted (λ j. OneText j (take b after)) (read_job file);
      again : n ≡ 0 → OfAccepted (λ j. FixedAgain (take b after)) (read_job file);
    }
house_given file before a after p n l b e f g =
    let told = replied FixedLength file (length before) after a p.right n l b e f g _ p.answer in
    let out = handed FixedLength file (length before) after a p.right n l b e f g in
    record {
      answer = told.0;
      right = told.1;
      buffer = p.buffer;
      fixed = out IsFixed p.fixed;
      read_back = out ReadsBack p.read_back;
      one_text = out OneText p.one_text;
      again = out (λ j text. FixedAgain text) p.again;
    }
