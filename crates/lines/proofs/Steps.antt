-- The laws of a step over a line: from the start of a text, steps go through its lines, and the place only moves on. Assumes nothing.
use mathlib.Core.Path.{◌≡◌, refl, sym, ap, ◌∙◌}
use mathlib.Core.List.{List, [], ◌∷◌}
use Prim.Native.Nat.{ℕ, suc, ◌+◌, ◌≤◌, ◌<◌, min}
use native.Mathlib.Omega.{arith}
use native.Mathlib.Decide.{dec_le, dec_lt}
use native.Mathlib.Nat.{add-sub_cancel_left}
use lib.ListN.{length, take, drop, length-drop, drop_of_length-le}
use lib.Seq.{drop-drop}
use Rattle.std.proofs.lemmas.Option.{none-some}
use Rattle.lists.proofs.Cases.{by_test}
use Rattle.text.specs.Bytes.{is_end, joined, pieces, lines}
use Rattle.lines.specs.declared.Place.{Place}
use Rattle.lines.specs.declared.Line.{Line}
use Rattle.std.specs.Prelude.{None, Some}
use Rattle.lines.specs.Places.{until, scan, line_end, step_at, step_lines}
use Rattle.lines.specs.Stepped.{Stepped}
use Rattle.lines.proofs.Scans.{until_le}
use Rattle.lines.proofs.StepAnswers.{step_end, step_line}

-- a step passes the first of the lines that are left

first_line : (t : List ℕ) → 0 < length t → lines t ≡ take (until is_end t) t ∷ lines (drop (suc (until is_end t)) t)
unfolding until pieces joined
first_line [] h = absurd (omega arith)
first_line (b ∷ []) h = by_test (is_end b) (λ e. rw e) (λ e. rw e)
first_line (b ∷ d ∷ t) h = by_test (is_end b) (λ e. rw e) (λ e. rw (e, first_line (d ∷ t) (omega arith)))

drop_within : (k : ℕ) (s : List ℕ) → drop (min k (length s)) s ≡ drop k s
drop_within k s =
    elim (dec_le k (length s)) [
      | yes h ↦ let e : min k (length s) ≡ k = omega arith in rw e
      | no h ↦ drop_of_length-le s {i = min k (length s)} (omega arith) ∙ sym (drop_of_length-le s {i = k} (omega arith))
    ]

-- the lines from a place on are the one at it and those behind it
pub step_lines_lem : (s : List ℕ) (p : Place) → lines (drop p.at s) ≡ step_lines s (step_at s p)
unfolding step_lines scan pieces
step_lines_lem s p =
    elim (dec_lt p.at (length s)) [
      | yes h ↦
          let u = until is_end (drop p.at s) in
          let e : p.at + suc u ≡ p.at + u + 1 = omega arith in
          first_line (drop p.at s) (omega (arith, length-drop p.at s))
          ∙ (rw (drop_within, add-sub_cancel_left, drop-drop (suc u) p.at s, e))
          ∙ ap (step_lines s) (step_line s p (line_end s p.at) (min (line_end s p.at + 1) (length s)) h refl refl)
      | no h ↦ ap lines (drop_of_length-le s {i = p.at} (omega arith)) ∙ ap (step_lines s) (step_end s p (omega arith))
    ]

-- a step over a line by its numbers: the line begins at the place and ends before the first byte 10 or the end of the text
pub record StepOver (s : List ℕ) (p : Place) (l : Line) : Type 0 where
  pub more : p.at < length s
  pub from_is : l.from ≡ p.at
  pub to_is : l.to ≡ p.at + until is_end (drop p.at s)
  pub next_is : l.next.at ≡ min (l.to + 1) (length s)
  pub count_is : l.next.passed ≡ p.passed + 1

pub step_over : (s : List ℕ) (p : Place) (l : Line) → Some l ≡ step_at s p → StepOver s p l
unfolding scan
step_over s p l e =
    elim (dec_lt p.at (length s)) [
      | yes h ↦
          let m : Line =
          record { from = p.at; to = line_end s p.at; next = record { at = min (line_end s p.at + 1) (length s); passed = p.passed + 1 } } in
          let k : Some l ≡ Some m = e ∙ sym (step_line s p m.to m.next.at h refl refl) in
          let g : l ≡ m = cc in
          record {
            more = h;
            from_is = ap (λ (x : Line). x.from) g;
            to_is = ap (λ (x : Line). x.to) g;
            next_is = ap (λ (x : Line). x.next.at) g ∙ ap (λ (x : Line). min (x.to + 1) (length s)) (sym g);
            count_is = ap (λ (x : Line). x.next.passed) g;
          }
      | no h ↦ let k : Some l ≡ None = e ∙ sym (step_end s p (omega arith)) in absurd (none-some _ (sym k))
    ]

-- `Stepped` holds of every step over a line
pub stepped : (s : List ℕ) (p : Place) (l : Line) → Some l ≡ step_at s p → Stepped s p l
unfolding step_lines
stepped s p l e =
    let q = step_over s p l e in
    record {
      starts = q.from_is;
      ordered = omega arith;
      inside = omega (arith, until_le is_end (drop p.at s), length-drop p.at s);
      ahead = omega arith;
      within = omega arith;
      counted = q.count_is;
      line = step_lines_lem s p ∙ ap (step_lines s) (sym e);
    }

-- and a step that finds none: no line is left
pub end_of_lines : (s : List ℕ) (p : Place) → None ≡ step_at s p → (lines (drop p.at s) ≡ []) × (length s ≤ p.at)
unfolding step_lines
end_of_lines s p e =
    elim (dec_lt p.at (length s)) [
      | yes h ↦
          let k = e ∙ sym (step_line s p (line_end s p.at) (min (line_end s p.at + 1) (length s)) h refl refl) in absurd (none-some _ k)
      | no h ↦ (step_lines_lem s p ∙ ap (step_lines s) (sym e), omega arith)
    ]
