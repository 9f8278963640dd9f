-- The line that the verdict names is broken, and is the first that is; a text that it calls sound has no broken line. Assumes nothing.
use Prim.Native.Nat.{ℕ, suc, ◌≤◌, ◌<◌}
use mathlib.Core.Path.{◌≡◌, refl}
use mathlib.Core.Bool.{true, ◌&&◌}
use Rattle.std.specs.Prelude.{Option, None, Some}
use mathlib.Core.List.{List, [], ◌∷◌}
use native.Mathlib.Omega.{arith}
use Rattle.lists.specs.Lists.{EachPair}
use Rattle.lists.proofs.Cases.{by_test, and_split}
use Rattle.board.specs.Job.{Job}
use Rattle.board.specs.Accepted.{AcceptedJob}
use Rattle.layout.specs.Tree.{Line}
use Rattle.drc.specs.Standing.{lines_read, Above, before_layout, in_layout, behind_layout, with_line}
use Rattle.drc.specs.Breach.{BreachFrom, at_line, further_down, out_of_place, ill_formed, stops_early, Breach}
use Rattle.drc.specs.Judge.{is_in_place, keeps_rules, sound_text, broken_at, at_text_end, judge_from, judge}
use Rattle.drc.proofs.InPlace.{can_stand_of, not_in_place}
use Rattle.drc.proofs.LineRules.{fails_line, passes_line}
use Rattle.drc.proofs.EarlyEnd.{early_before, early_in}

-- a broken line stands at or below the first of the lines
breach_from : {job : Job} {n : ℕ} {a : Above} {ls : List (Option Line)} {l : ℕ} → BreachFrom job n a ls l → n ≤ l
breach_from (at_line b) = omega arith
breach_from (further_down {l = l} s b) = omega (arith, breach_from b)
breach_from (out_of_place f) = omega arith
breach_from ill_formed = omega arith
breach_from (stops_early f) = omega arith

same_line : (n l : ℕ) → broken_at n ≡ broken_at l → n ≡ l
same_line n l e = cc

pub not_sound : (n : ℕ) → broken_at n ≡ sound_text → ⊥
not_sound n e = let z : ◌≡◌ {A = ℕ} 0 1 = cc in omega arith

not_broken : (l : ℕ) → sound_text ≡ broken_at l → ⊥
not_broken l e = let z : ◌≡◌ {A = ℕ} 0 1 = cc in omega arith

-- ---- at the end of the text

end_breach : (job : Job) (n : ℕ) (a : Above) (l : ℕ) → at_text_end n a ≡ broken_at l → BreachFrom job n a [] l
unfolding at_text_end
end_breach job n before_layout l h = rw (← same_line n l h) (early_before job n)
end_breach job n (in_layout t earlier ws ns) l h = rw (← same_line n l h) (early_in job n t earlier ws ns)
end_breach job n behind_layout l h = absurd (not_broken l h)

end_first : (n : ℕ) (a : Above) (l : ℕ) → at_text_end n a ≡ broken_at l → n ≡ l
unfolding at_text_end
end_first n before_layout l h = same_line n l h
end_first n (in_layout t earlier ws ns) l h = same_line n l h
end_first n behind_layout l h = absurd (not_broken l h)

end_sound : {job : Job} (n : ℕ) (a : Above) {l : ℕ} → at_text_end n a ≡ sound_text → BreachFrom job n a [] l → ⊥
unfolding at_text_end
end_sound n before_layout h b = not_sound n h
end_sound n (in_layout t earlier ws ns) h b = not_sound n h
end_sound n behind_layout h (stops_early f) = f refl

-- ---- at a line

module _ (job : Job) (rise : EachPair (λ a b. a.number < b.number) job.nets) where
  -- past a line that passes, a broken line is one of the lines below it
  passed_by : {n : ℕ} {a : Above} {x : Line} {ls : List (Option Line)} {l : ℕ} → BreachFrom job n a (Some x ∷ ls) l →
      is_in_place job a x ≡ true → keeps_rules job a x ls ≡ true → BreachFrom job (suc n) (with_line a x) ls l
  passed_by (at_line b) s k = absurd (passes_line job rise s k b)
  passed_by (further_down c b) s k = b
  passed_by (out_of_place {a = a} {x = x} f) s k = absurd (f (can_stand_of job a x s))

  from_breach : (n : ℕ) (a : Above) (ls : List (Option Line)) (l : ℕ) → judge_from job n a ls ≡ broken_at l → BreachFrom job n a ls l
  unfolding judge_from
  from_breach n a [] l h = end_breach job n a l h
  from_breach n a (None ∷ ls) l h = rw (← same_line n l h) ill_formed
  from_breach n a (Some x ∷ ls) l h =
      by_test (is_in_place job a x && keeps_rules job a x ls)
      (λ e. further_down (can_stand_of job a x (and_split (is_in_place job a x) (keeps_rules job a x ls) e).0) (from_breach (suc n) (with_line a x) ls l (rw e at h)))
      (λ e. rw (← same_line n l (rw e at h))
      (by_test (is_in_place job a x)
      (λ s. at_line (fails_line job rise a x ls s (rw s at e)))
      (λ s. out_of_place (not_in_place job a x s))))

  from_first : (n : ℕ) (a : Above) (ls : List (Option Line)) (l m : ℕ) → judge_from job n a ls ≡ broken_at l → BreachFrom job n a ls m → l ≤ m
  unfolding judge_from
  from_first n a [] l m h b = omega (arith, end_first n a l h, breach_from b)
  from_first n a (None ∷ ls) l m h b = omega (arith, same_line n l h, breach_from b)
  from_first n a (Some x ∷ ls) l m h b =
      by_test (is_in_place job a x && keeps_rules job a x ls)
      (λ e.
      let s = and_split (is_in_place job a x) (keeps_rules job a x ls) e in
      from_first (suc n) (with_line a x) ls l m (rw e at h) (passed_by b s.0 s.1))
      (λ e. omega (arith, same_line n l (rw e at h), breach_from b))

  from_sound : (n : ℕ) (a : Above) (ls : List (Option Line)) (m : ℕ) → judge_from job n a ls ≡ sound_text → BreachFrom job n a ls m → ⊥
  unfolding judge_from
  from_sound n a [] m h b = end_sound n a h b
  from_sound n a (None ∷ ls) m h b = not_sound n h
  from_sound n a (Some x ∷ ls) m h b =
      by_test (is_in_place job a x && keeps_rules job a x ls)
      (λ e.
      let s = and_split (is_in_place job a x) (keeps_rules job a x ls) e in
      from_sound (suc n) (with_line a x) ls m (rw e at h) (passed_by b s.0 s.1))
      (λ e. not_sound n (rw e at h))

-- ---- the theorems
module _ (job : Job) (a : AcceptedJob job) (text : List ℕ) where
  -- the line that is named is broken
  pub judge_breach : (l : ℕ) → judge job text ≡ broken_at l → Breach job text l
  unfolding judge
  judge_breach l h = from_breach job a.numbers_rise 1 before_layout (lines_read text) l h

  -- no line above it is
  pub judge_first : (l m : ℕ) → judge job text ≡ broken_at l → Breach job text m → l ≤ m
  unfolding judge
  judge_first l m h b = from_first job a.numbers_rise 1 before_layout (lines_read text) l m h b

  -- a text that is called sound has no broken line
  pub judge_no_breach : (m : ℕ) → judge job text ≡ sound_text → Breach job text m → ⊥
  unfolding judge
  judge_no_breach m h b = from_sound job a.numbers_rise 1 before_layout (lines_read text) m h b
