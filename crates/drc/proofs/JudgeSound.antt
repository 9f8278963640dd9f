-- The verdict on a text is sound exactly if the text is a sound layout, and exactly if none of its lines is broken. Assumes nothing.
use Prim.Native.Nat.{ℕ}
use mathlib.Core.Path.{◌≡◌, refl, ap, ◌∙◌}
use mathlib.Core.Logic.{◌↔◌}
use mathlib.Core.List.Memᴰ
use mathlib.Core.List.{List, []}
use native.Mathlib.Omega.{arith}
use Rattle.lists.proofs.Joins.{Each-each}
use Rattle.board.specs.Job.{Job}
use Rattle.board.specs.Accepted.{AcceptedJob}
use Rattle.layout.specs.LayoutText.{layout_lines, layout_text}
use Rattle.sound.specs.Wires.{track_numbers, line_numbers}
use Rattle.sound.specs.Sound.{Sound}
use Rattle.sound.proofs.Bounds.{bounded_small, sound_bounded}
use Rattle.drc.specs.Standing.{lines_read}
use Rattle.drc.specs.Breach.{Breach}
use Rattle.drc.specs.Judge.{Verdict, sound_text, broken_at, judge}
use Rattle.drc.proofs.Lines.{of_form, lines_of_text}
use Rattle.drc.proofs.FirstBroken.{judge_breach, judge_no_breach}
use Rattle.drc.proofs.RulesByLine.{tree_sound}
use Rattle.drc.proofs.JudgedTree.{sound_tree}
use Rattle.drc.proofs.RulesToSound.{kept_tree_sound}
use Rattle.drc.proofs.SoundToRules.{tracks_kept, looses_kept}

by_verdict : {P : Type 0} (v : Verdict) → (v ≡ sound_text → P) → ((l : ℕ) → v ≡ broken_at l → P) → P
by_verdict sound_text f g = f refl
by_verdict (broken_at l) f g = g l refl

module _ (job : Job) (a : AcceptedJob job) (text : List ℕ) where
  -- a text that is called sound is a sound layout
  pub judge_sound : judge job text ≡ sound_text → Sound job text
  unfolding judge
  judge_sound h = kept_tree_sound job a.numbers_rise text (sound_tree job (lines_read text) h)

  -- a sound layout is called sound
  pub sound_judge : Sound job text → judge job text ≡ sound_text
  unfolding judge layout_text layout_lines line_numbers
  sound_judge s =
      let rise = a.numbers_rise in
      let trs = s.layout.tracks in
      let ks = s.layout.loose in
      let lines_are : lines_read text ≡ of_form (layout_lines s.layout) =
      ap lines_read s.rendered ∙ lines_of_text (layout_lines s.layout) (bounded_small s.layout (sound_bounded job a text s)) in
      rw lines_are
      (tree_sound job trs ks
      (tracks_kept job rise 0 [] trs ks s.tracks s.once (omega (arith, s.count)))
      (looses_kept job rise (track_numbers trs) ks (Each-each ks (λ k i. s.no_other k (Memᴰ.append_right (track_numbers trs) i))) s.once s.loose_rise [] ks refl)
      s.each)

  -- the verdict is sound exactly if the text is a sound layout
  pub judge_exact : judge job text ≡ sound_text ↔ Sound job text
  judge_exact = (judge_sound, sound_judge)

  -- a text is a sound layout exactly if none of its lines is broken
  pub sound_unbroken : Sound job text ↔ ((l : ℕ) → Breach job text l → ⊥)
  sound_unbroken = (
    λ s l b. judge_no_breach job a text l (sound_judge s) b,
    λ f. by_verdict (judge job text) judge_sound (λ l e. absurd (f l (judge_breach job a text l e))),
  )
