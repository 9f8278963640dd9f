-- A text is refused for its first fault, and accepted, as the job that its lines hold, exactly where it has none. Assumes nothing.
use Prim.Native.Nat.{ℕ, suc, ◌≤◌, ◌<◌}
use mathlib.Core.Path.{◌≡◌, refl, sym, ap, subst, ◌∙◌}
use mathlib.Core.Logic.{◌↔◌, ◌⊎◌, inl, inr, ⊎_elim}
use mathlib.Core.List.{List, [], ◌∷◌, ◌++◌, map, append_assoc, append-nil}
use native.Mathlib.Omega.{arith}
use lib.ListN.{length, length-append}
use Rattle.board.specs.Job.{Job}
use Rattle.text.specs.Bytes.{lines}
use Rattle.jobfile.specs.declared.Form.{Form}
use Rattle.jobfile.specs.declared.Form.TheVariants as Is
use Rattle.jobfile.specs.declared.Refusal.{Refusal}
use Rattle.jobfile.specs.declared.Refusal.TheVariants.{TooLong, NotOfForm}
use Rattle.jobfile.specs.Forms.{read_form}
use Rattle.jobfile.specs.Read.{State, start, opened, sized, filled, closed, Next, go, stop, step, Read, accepted, refused, ended, follow, read_from, read_job}
use Rattle.jobfile.specs.Answers.{number_of, line_of}
use Rattle.jobfile.specs.Faults.{forms_of, job_from, job_in, non_blank, Ordered, LineFault, Fault, too_long, on_line, ends_early, FirstFault}
use Rattle.jobfile.proofs.Tests.{read_cases}
use Rattle.jobfile.proofs.RefusalNumbers.{same_refusal}
use Rattle.jobfile.proofs.LinesAbove.{LinesReach, not_both}
use Rattle.jobfile.proofs.LineFaults.{fault_at, LineJudged, step_judged}

-- ---- faults below some lines

-- the lines fs, which stand below the lines `above`, have the fault o
data FaultIn (above fs : List Form) (o : Refusal) : Type 0 where
  line : (ms : List Form) (f : Form) (bs : List Form) → fs ≡ ms ++ (f ∷ bs) →
      LineFault (above ++ ms) (suc (length (above ++ ms))) f o → FaultIn above fs o
  end : o ≡ NotOfForm (suc (length (above ++ fs))) → (Ordered (Is.Close ∷ []) (above ++ fs) → ⊥) → FaultIn above fs o

-- and it is the first
record FirstIn (above fs : List Form) (o : Refusal) : Type 0 where
  fault : FaultIn above fs o
  first_line : (p : Refusal) → FaultIn above fs p → line_of o ≤ line_of p
  first_number : (p : Refusal) → FaultIn above fs p → line_of p ≡ line_of o → number_of o ≤ number_of p

nil_cons : (ms bs : List Form) (f : Form) → [] ≡ ms ++ (f ∷ bs) → ⊥
nil_cons ms bs f e = omega (arith, ap length e, length-append ms (f ∷ bs))

in_nil : (above : List Form) (o : Refusal) → FaultIn above [] o →
    (o ≡ NotOfForm (suc (length above))) × (Ordered (Is.Close ∷ []) above → ⊥)
in_nil above o (line ms f bs e x) = absurd (nil_cons ms bs f e)
in_nil above o (end q x) = (rw append-nil at q, rw append-nil at x)

here : (above fs : List Form) (f : Form) (o : Refusal) → LineFault above (suc (length above)) f o → FaultIn above (f ∷ fs) o
here above fs f o x = line [] f fs refl (rw append-nil x)

later : (above fs : List Form) (f : Form) (o : Refusal) → FaultIn (above ++ (f ∷ [])) fs o → FaultIn above (f ∷ fs) o
later above fs f o (line ms g bs e x) = line (f ∷ ms) g bs (ap (λ xs. f ∷ xs) e) (rw (append_assoc above (f ∷ []) ms) at x)
later above fs f o (end q x) =
    let a = append_assoc above (f ∷ []) fs in
    end (rw a at q) (rw a at x)

in_cons : (above fs : List Form) (f : Form) (o : Refusal) → FaultIn above (f ∷ fs) o →
    LineFault above (suc (length above)) f o ⊎ FaultIn (above ++ (f ∷ [])) fs o
in_cons above fs f o (line [] g bs e x) = let q : g ≡ f = cc in inl (rw (q, append-nil) at x)
in_cons above fs f o (line (m ∷ ms) g bs e x) =
    let q : m ≡ f = cc in
    let t : fs ≡ ms ++ (g ∷ bs) = cc in
    inr (line ms g bs t (rw (q, ← append_assoc above (f ∷ []) ms) at x))
in_cons above fs f o (end q x) =
    let a = append_assoc above (f ∷ []) fs in
    inr (end (rw a q) (rw a x))

-- a fault's line is below those above
fault_below : (above fs : List Form) (o : Refusal) → FaultIn above fs o → suc (length above) ≤ line_of o
fault_below above fs o (line ms f bs e x) =
    omega (arith, fault_at (above ++ ms) (suc (length (above ++ ms))) f o x, length-append above ms)
fault_below above fs o (end q x) = omega (arith, ap line_of q, length-append above fs)

-- ---- the lines from a line on

-- what the lines fs below the lines `above` are read as is right
abbrev Right : List Form → List Form → Read → Type 0
Right above fs (accepted job) = ((o : Refusal) → FaultIn above fs o → ⊥) × (job ≡ job_in (above ++ fs))
Right above fs (refused o) = FirstIn above fs o

right_early : (above : List Form) → (Ordered (Is.Close ∷ []) above → ⊥) →
    Right above [] (refused (NotOfForm (suc (length above))))
right_early above x =
    record {
      fault = end (rw append-nil) (rw append-nil x);
      first_line = λ p q. fault_below above [] p q;
      first_number = λ p q e. omega (arith, ap number_of (in_nil above p q).0);
    }

ended_right : (above : List Form) (s : State) → LinesReach s above → Right above [] (ended (suc (length above)) s)
unfolding ended
ended_right above start r = right_early above (λ a. omega (arith, ap length a.lines_are, ap length r.0))
ended_right above opened r = right_early above (λ a. omega (arith, ap length a.lines_are, ap length r.0))
ended_right above (sized h) r = right_early above (λ a. omega (arith, ap length a.lines_are, ap length r.0))
ended_right above (filled job) r = right_early above (λ a. not_both above r.0 a)
ended_right above (closed job) r = (λ o q. (in_nil above o q).1 r.0, sym r.1 ∙ (rw append-nil))

module _ (above fs : List Form) (f : Form) where
  -- a line without a fault above them
  right_later : (y : Read) → ((o : Refusal) → LineFault above (suc (length above)) f o → ⊥) → Right (above ++ (f ∷ [])) fs y →
      Right above (f ∷ fs) y
  right_later (accepted job) none r = (
    λ o q. ⊎_elim (λ x. none o x) (λ x. r.0 o x) (in_cons above fs f o q),
    rw (append_assoc above (f ∷ []) fs) at r.1,
  )
  right_later (refused o) none r =
      record {
        fault = later above fs f o r.fault;
        first_line = λ p q. ⊎_elim (λ x. absurd (none p x)) (λ x. r.first_line p x) (in_cons above fs f p q);
        first_number = λ p q e. ⊎_elim (λ x. absurd (none p x)) (λ x. r.first_number p x e) (in_cons above fs f p q);
      }

  follow_right : (x : Next) (g : State → Read) → LineJudged above (suc (length above)) f x →
      ((t : State) → LinesReach t (above ++ (f ∷ [])) → Right (above ++ (f ∷ [])) fs (g t)) → Right above (f ∷ fs) (follow x g)
  unfolding follow
  follow_right (go t) g j h = right_later (g t) j.1 (h t j.0)
  follow_right (stop o) g j h =
      let k = fault_at above (suc (length above)) f o j.fault in
      record {
        fault = here above fs f o j.fault;
        first_line = λ p q. omega (arith, fault_below above (f ∷ fs) p q);
        first_number = λ p q e. ⊎_elim
            (λ x. j.least p x)
            (λ x. absurd (omega (arith, fault_below (above ++ (f ∷ [])) fs p x, length-append above (f ∷ []))))
            (in_cons above fs f p q);
      }

from_right : (above : List Form) (s : State) (ls : List (List ℕ)) → LinesReach s above →
    Right above (map read_form ls) (read_from (suc (length above)) s ls)
unfolding read_from
from_right above s [] r = ended_right above s r
from_right above s (l ∷ ls) r =
    let f = read_form l in
    let k : length (above ++ (f ∷ [])) ≡ suc (length above) = omega (arith, length-append above (f ∷ [])) in
    follow_right above (map read_form ls) f (step (suc (length above)) s f) (λ t. read_from (suc (suc (length above))) t ls)
    (step_judged above (suc (length above)) s f r)
    (λ t q. rw k at (from_right (above ++ (read_form l ∷ [])) t ls q))

-- ---- the whole text

module _ (text : List ℕ) where
  lines_right : Right [] (forms_of text) (read_from 1 start (lines text))
  unfolding non_blank job_from
  lines_right = from_right [] start (lines text) (refl, refl)

  in_fault : (o : Refusal) → FaultIn [] (forms_of text) o → Fault text o
  in_fault o (line ms f bs e x) = on_line ms bs f e x
  in_fault o (end q x) = rw q (ends_early (suc (length (forms_of text))) refl x)

  fault_in : length text ≤ 64000 → (o : Refusal) → Fault text o → FaultIn [] (forms_of text) o
  fault_in h o (too_long l) = absurd (omega arith)
  fault_in h o (on_line above below f e x) = line above f below e x
  fault_in h o (ends_early k e x) = end (ap NotOfForm e) x

  pub fault_from : (o : Refusal) → Fault text o → 1 ≤ number_of o
  fault_from o (too_long l) = omega arith
  fault_from o (on_line above below f e x) = omega (arith, fault_at above (suc (length above)) f o x)
  fault_from o (ends_early k e x) = omega arith

  -- what read answers is right
  abbrev Answered : Read → Type 0
  Answered (accepted job) = ((o : Refusal) → Fault text o → ⊥) × (job ≡ job_in (forms_of text))
  Answered (refused o) = FirstFault text o

  answered : (y : Read) → length text ≤ 64000 → Right [] (forms_of text) y → Answered y
  answered (accepted job) h r = (λ o q. r.0 o (fault_in h o q), r.1)
  answered (refused o) h r =
      record {
        fault = in_fault o r.fault;
        first_line = λ p q. omega (arith, r.first_line p (fault_in h p q));
        first_number = λ p q e. omega (arith, r.first_number p (fault_in h p q) e);
      }

  long_answered : 64000 < length text → Answered (refused TooLong)
  long_answered h = record { fault = too_long (omega arith); first_line = λ p q. omega arith; first_number = λ p q e. omega (arith, fault_from p q) }

  read_answered : Answered (read_job text)
  read_answered =
      read_cases text Answered (λ h. answered (read_from 1 start (lines text)) (omega arith) lines_right) (λ h. long_answered (omega arith))

  -- a refused text has the fault that the answer names, none on a line before, and none of a smaller number on that line
  pub read_refused : (o : Refusal) → read_job text ≡ refused o → FirstFault text o
  read_refused o e = subst Answered e read_answered

  -- an accepted text has no fault
  pub read_faultless : (job : Job) → read_job text ≡ accepted job → (o : Refusal) → Fault text o → ⊥
  read_faultless job e = (subst Answered e read_answered).0

  -- and is read as the job that its lines hold
  pub read_held : (job : Job) → read_job text ≡ accepted job → job ≡ job_in (forms_of text)
  read_held job e = (subst Answered e read_answered).1

  -- back: the first fault of a text is what it is refused for
  pub first_refused : (o : Refusal) → FirstFault text o → read_job text ≡ refused o
  first_refused o h = by (read_job text) read_answered
    where
      by : (y : Read) → Answered y → y ≡ refused o
      by (accepted job) a = absurd (a.0 o h.fault)
      by (refused p) a =
          let u = a.first_line o h.fault in
          let w = h.first_line p a.fault in
          let k : line_of p ≡ line_of o = omega arith in
          let i = a.first_number o h.fault (sym k) in
          let j = h.first_number p a.fault k in
          ap refused (same_refusal p o (omega arith) k)

  -- and a text without a fault is accepted
  pub faultless_accepted : ((o : Refusal) → Fault text o → ⊥) → read_job text ≡ accepted (job_in (forms_of text))
  faultless_accepted none = by (read_job text) read_answered
    where
      by : (y : Read) → Answered y → y ≡ accepted (job_in (forms_of text))
      by (accepted job) a = ap accepted a.1
      by (refused o) a = absurd (none o a.fault)

  -- length first: refusal 1 is for all texts above 64,000 bytes and for no other
  long_fault : (o : Refusal) → o ≡ TooLong → Fault text o → 64000 < length text
  long_fault o q (too_long h) = h
  long_fault o q (on_line above below f e x) = absurd (omega (arith, ap line_of q, fault_at above (suc (length above)) f o x))
  long_fault o q (ends_early k e x) = absurd (omega (arith, ap line_of q))

  pub long_refused : (read_job text ≡ refused TooLong) ↔ (64000 < length text)
  long_refused = (λ e. long_fault TooLong refl (read_refused TooLong e).fault, λ h. first_refused TooLong (long_answered h))
