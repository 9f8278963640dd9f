-- The lines that are left of a layout text behind a step are those that the definitions read. Assumes nothing.
use Prim.Native.Nat.{ℕ, suc, ◌+◌, ◌-◌, ◌≤◌, ◌<◌, min}
use mathlib.Core.Path.{◌≡◌, refl, ap, ◌∙◌}
use mathlib.Core.Bool.{true}
use Rattle.std.specs.Prelude.{None, Some}
use mathlib.Core.List.{List, [], ◌∷◌, ◌++◌}
use native.Mathlib.Omega.{arith}
use native.Mathlib.Decide.{dec_lt}
use lib.ListN.{length, get_or, take, drop, length-drop, drop_of_length-le}
use lib.Seq.{take_all, split_at, drop-drop}
use borrow.Author.Tests.{eq-eqb, ne_eqb, eqb-true}
use Rattle.lists.specs.Lists.{all_of}
use Rattle.text.specs.Bytes.{is_end, pieces}
use Rattle.lines.specs.Places.{until, step_at}
use Rattle.lines.specs.declared.Place.{Place}
use Rattle.lines.specs.declared.Line.{Line}
use Rattle.lines.proofs.Scans.{until_le, until_before, until_at}
use Rattle.lines.proofs.Steps.{step_over, end_of_lines}
use Rattle.layout.specs.ReadBack.{read_line}
use Rattle.layout.proofs.RoundTrip.{plain}
use Rattle.drc.specs.Standing.{is_ended, read_each, lines_read}
use Rattle.drc.proofs.Lines.{line_then, line_open}
use Rattle.layoutsteps.specs.LayoutSteps.{line_read}

-- a text whose first byte 10 is known
first_ended : (t : List ℕ) → until is_end t < length t → lines_read t ≡ read_line (take (until is_end t) t) ∷ lines_read (drop (suc (until is_end t)) t)
first_ended t h =
    let u = until is_end t in
    let ten : get_or t u 0 ≡ 10 = eqb-true (get_or t u 0) 10 (until_at is_end t h) in
    ap lines_read (split_at t u 0 h ∙ ap (λ (b : ℕ). take u t ++ b ∷ drop (suc u) t) ten) ∙
    line_then (take u t) (drop (suc u) t) (unfold plain in (until_before is_end t))

-- a text without byte 10
none_ended : (t : List ℕ) → 1 ≤ length t → length t ≤ until is_end t → lines_read t ≡ None ∷ []
none_ended t l h =
    let w : take (until is_end t) t ≡ t = take_all (until is_end t) t h in
    let before : all_of plain (take (until is_end t) t) ≡ true = unfold plain in (until_before is_end t) in
    line_open t (rw w at before) l

none_read : lines_read [] ≡ []
unfolding lines_read is_ended read_each pieces
none_read = refl

module _ (s : List ℕ) (p : Place) where
  abbrev here : List ℕ
  here = drop p.at s

  -- the line at a place
  line_ahead : p.at < length s → (to next : ℕ) → to ≡ p.at + until is_end here → next ≡ min (to + 1) (length s) →
      lines_read here ≡ line_read s p.at to next ∷ lines_read (drop next s)
  unfolding line_read
  line_ahead h to next e f =
      let u = until is_end here in
      let size : length here ≡ length s - p.at = length-drop p.at s in
      let le = until_le is_end here in
      elim (dec_lt to (length s)) [
        | yes l ↦
            let n : next ≡ to + 1 = omega arith in
            let d : next ≡ to → ⊥ = λ z. omega arith in
            let k : to - p.at ≡ u = omega arith in
            let q : p.at + suc u ≡ next = omega arith in
            let behind : drop (suc u) here ≡ drop next s = drop-drop (suc u) p.at s ∙ ap (λ (i : ℕ). drop i s) q in
            rw (ne_eqb next to d, k, ← behind) (first_ended here (omega arith))
        | no l ↦
            let n : next ≡ to = omega arith in
            let none_left : drop next s ≡ [] = drop_of_length-le s {i = next} (omega arith) in
            rw (eq-eqb next to n, none_left, none_read) (none_ended here (omega arith) (omega arith))
      ]

  pub lines_ahead : (l : Line) → Some l ≡ step_at s p → lines_read here ≡ line_read s l.from l.to l.next.at ∷ lines_read (drop l.next.at s)
  lines_ahead l e =
      let q = step_over s p l e in
      rw q.from_is (line_ahead q.more l.to l.next.at q.to_is q.next_is)

  -- the end of the text
  pub none_ahead : None ≡ step_at s p → lines_read here ≡ []
  none_ahead e = ap lines_read (drop_of_length-le s {i = p.at} (end_of_lines s p e).1) ∙ none_read
