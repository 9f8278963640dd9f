-- What is promised of the numbers handed out, taken out: what they say of the faults of the job file, of the text written and of the
-- layout checked. Assumes nothing.
use Rattle.std.specs.Prelude.{Result, Ok, Err}
use Prim.Native.Nat.{ℕ, ◌≤◌, ◌<◌}
use mathlib.Core.Path.{◌≡◌, refl}
use mathlib.Core.List.{List}
use native.Mathlib.Omega.{arith}
use lib.ListN.{length}
use Rattle.board.specs.Job.{Job}
use Rattle.sound.specs.Sound.{Sound}
use Rattle.jobfile.specs.declared.Refusal.{Refusal}
use Rattle.jobfile.specs.Answers.{number_of, line_of}
use Rattle.jobfile.specs.Faults.{Fault, FirstFault}
use Rattle.jobfile.proofs.Refusals.{fault_from}
use Rattle.jobfile.proofs.RefusalNumbers.{number_below}
use Rattle.answers.specs.declared.TextRefusal.{TextRefusal}
use Rattle.answers.specs.declared.TextRefusal.TheVariants as Of
use Rattle.answers.specs.Answers.{RightFor}
use Rattle.checker.specs.declared.CheckError.{CheckError}
use Rattle.checker.specs.declared.CheckError.TheVariants as Is
use Rattle.checker.specs.RightVerdict.{RightVerdict, FirstBreach, job_held}
use Rattle.exports.specs.Exported.{one_if, RepliesWith, CheckRepliesWith}

module _ (Length : Job → ℕ → Type 0) (text : List ℕ) (room n l b : ℕ) where
  zero_by : (a : Result ℕ TextRefusal) → RepliesWith a n l b → RightFor Length text room a → n ≡ 0 →
      ((o : Refusal) → Fault text o → ⊥) × (b ≤ room) × (b ≤ 64000)
  zero_by (Err (Of.Refused o)) s r z = absurd (omega (arith, s.number_is, z, fault_from text o r.fault))
  zero_by (Err (Of.TooSmall m)) s r z = absurd (omega (arith, s.number_is, z))
  zero_by (Ok m) s r z = (r.0, rw s.bytes_is r.1, rw s.bytes_is r.2)

  -- number 0 is for a text without a fault, and the length is at most that of the buffer, and at most 64,000
  pub zero_faultless : ((a : Result ℕ TextRefusal) × (RepliesWith a n l b × RightFor Length text room a)) → n ≡ 0 →
      ((o : Refusal) → Fault text o → ⊥) × (b ≤ room) × (b ≤ 64000)
  zero_faultless r = zero_by r.0 r.1.0 r.1.1

  ten_by : (a : Result ℕ TextRefusal) → RepliesWith a n l b → RightFor Length text room a → n ≡ 10 → room < b
  ten_by (Err (Of.Refused o)) s r z = absurd (omega (arith, s.number_is, z, number_below o))
  ten_by (Err (Of.TooSmall m)) s r z = rw s.bytes_is r.1
  ten_by (Ok m) s r z = absurd (omega (arith, s.number_is, z))

  -- number 10 is for a buffer that has fewer bytes than are told
  pub ten_small : ((a : Result ℕ TextRefusal) × (RepliesWith a n l b × RightFor Length text room a)) → n ≡ 10 → room < b
  ten_small r = ten_by r.0 r.1.0 r.1.1

  named_by : (a : Result ℕ TextRefusal) → RepliesWith a n l b → RightFor Length text room a → (o : Refusal) → Fault text o →
      (p : Refusal) × (FirstFault text p × ((n ≡ number_of p) × (l ≡ line_of p)))
  named_by (Err (Of.Refused p)) s r o f = (p, (r, (s.number_is, s.line_is)))
  named_by (Err (Of.TooSmall m)) s r o f = absurd (r.0 o f)
  named_by (Ok m) s r o f = absurd (r.0 o f)

  -- of a text with a fault the number and the line are those of the first one
  pub fault_named : ((a : Result ℕ TextRefusal) × (RepliesWith a n l b × RightFor Length text room a)) → (o : Refusal) → Fault text o →
      (p : Refusal) × (FirstFault text p × ((n ≡ number_of p) × (l ≡ line_of p)))
  fault_named r = named_by r.0 r.1.0 r.1.1

module _ (job layout : List ℕ) (n l k : ℕ) where
  passed_by : (a : Result (Unit {0}) CheckError) → CheckRepliesWith a n l k → RightVerdict job layout a → n ≡ 0 → k ≡ 0 →
      Sound (job_held job) layout
  unfolding one_if
  passed_by (Err (Is.Refused o)) s r z y = absurd (omega (arith, s.number_is, z, fault_from job o ((r.refused_for o).0 refl).fault))
  passed_by (Err Is.LayoutTooLong) s r z y = absurd (omega (arith, s.number_is, z))
  passed_by (Ok u) s r z y = (r.passes_for.0 refl).1
  passed_by (Err (Is.Broken m)) s r z y = absurd (omega (arith, s.broken_is, y))

  -- where number and broken are 0 the layout is sound
  pub passed_sound : ((a : Result (Unit {0}) CheckError) × (CheckRepliesWith a n l k × RightVerdict job layout a)) → n ≡ 0 → k ≡ 0 →
      Sound (job_held job) layout
  passed_sound r = passed_by r.0 r.1.0 r.1.1

  eleven_by : (a : Result (Unit {0}) CheckError) → CheckRepliesWith a n l k → RightVerdict job layout a → n ≡ 11 →
      64000 < length layout
  eleven_by (Err (Is.Refused o)) s r z = absurd (omega (arith, s.number_is, z, number_below o))
  eleven_by (Err Is.LayoutTooLong) s r z = (r.too_long_for.0 refl).1
  eleven_by (Ok u) s r z = absurd (omega (arith, s.number_is, z))
  eleven_by (Err (Is.Broken m)) s r z = absurd (omega (arith, s.number_is, z))

  -- number 11 is for a layout text above 64,000 bytes
  pub eleven_long : ((a : Result (Unit {0}) CheckError) × (CheckRepliesWith a n l k × RightVerdict job layout a)) → n ≡ 11 → 64000 < length layout
  eleven_long r = eleven_by r.0 r.1.0 r.1.1

  first_by : (a : Result (Unit {0}) CheckError) → CheckRepliesWith a n l k → RightVerdict job layout a → k ≡ 1 →
      FirstBreach (job_held job) layout l
  unfolding one_if
  first_by (Err (Is.Refused o)) s r y = absurd (omega (arith, s.broken_is, y))
  first_by (Err Is.LayoutTooLong) s r y = absurd (omega (arith, s.broken_is, y))
  first_by (Ok u) s r y = absurd (omega (arith, s.broken_is, y))
  first_by (Err (Is.Broken m)) s r y = rw s.line_is ((r.broken_for m).0 refl).2

  -- where broken is 1 the line is the first broken one
  pub broken_first : ((a : Result (Unit {0}) CheckError) × (CheckRepliesWith a n l k × RightVerdict job layout a)) → k ≡ 1 →
      FirstBreach (job_held job) layout l
  broken_first r = first_by r.0 r.1.0 r.1.1
