-- The broken lines that are worked out are exactly those with a breach. Assumes nothing.
use Prim.Native.Nat.{ℕ, suc, ◌<◌}
use mathlib.Core.Path.{◌≡◌, refl}
use mathlib.Core.Logic.{◌↔◌, ⊎_elim}
use Rattle.std.specs.Prelude.{Option, None, Some}
use mathlib.Core.List.{List, [], ◌∷◌, Memᴰ}
use Rattle.lists.specs.Lists.{EachPair}
use Rattle.lists.proofs.Cases.{by_test}
use Rattle.board.specs.Job.{Job}
use Rattle.board.specs.Accepted.{AcceptedJob}
use Rattle.layout.specs.Tree.{Line}
use Rattle.drc.specs.Standing.{lines_read, Above, before_layout, in_layout, behind_layout, with_line}
use Rattle.drc.specs.Breach.{BreachFrom, at_line, further_down, out_of_place, ill_formed, stops_early, Breach}
use Rattle.drc.specs.Judge.{is_in_place, keeps_rules}
use Rattle.drc.specs.BrokenLines.{broken_end, broken_from, broken_lines}
use Rattle.drc.proofs.InPlace.{can_stand_of, in_place_of, not_in_place}
use Rattle.drc.proofs.LineRules.{fails_line, passes_line}
use Rattle.drc.proofs.EarlyEnd.{early_before, early_in}

one_line : {l n : ℕ} → Memᴰ l (n ∷ []) → l ≡ n
one_line m = ⊎_elim (λ e. e) (λ r. absurd (mathlib.Core.List.Memᴰ.not-nil r)) (mathlib.Core.List.Memᴰ.cases_cons m)

-- ---- at the end of the text

end_listed : (n : ℕ) (a : Above) → (a ≡ behind_layout → ⊥) → Memᴰ n (broken_end n a)
unfolding broken_end
end_listed n before_layout f = mathlib.Core.List.Memᴰ.head refl
end_listed n (in_layout t earlier ws ns) f = mathlib.Core.List.Memᴰ.head refl
end_listed n behind_layout f = absurd (f refl)

listed_end : (job : Job) (n l : ℕ) (a : Above) → Memᴰ l (broken_end n a) → BreachFrom job n a [] l
unfolding broken_end
listed_end job n l before_layout m = rw (one_line m) (early_before job n)
listed_end job n l (in_layout t earlier ws ns) m = rw (one_line m) (early_in job n t earlier ws ns)
listed_end job n l behind_layout m = absurd (mathlib.Core.List.Memᴰ.not-nil m)

-- ---- at a line

module _ (job : Job) (rise : EachPair (λ a b. a.number < b.number) job.nets) where
  from_listed : {n l : ℕ} {a : Above} {ls : List (Option Line)} → BreachFrom job n a ls l → Memᴰ l (broken_from job n a ls)
  unfolding broken_from
  from_listed (at_line {a = a} {x = x} {ls = ls} b) =
      by_test (is_in_place job a x)
      (λ s. rw s (by_test (keeps_rules job a x ls) (λ k. absurd (passes_line job rise s k b)) (λ k. rw k (mathlib.Core.List.Memᴰ.head refl))))
      (λ s. rw s (mathlib.Core.List.Memᴰ.head refl))
  from_listed (further_down {a = a} {x = x} {ls = ls} c b) =
      let m = from_listed b in
      rw (in_place_of job c) (by_test (keeps_rules job a x ls) (λ k. rw k m) (λ k. rw k (mathlib.Core.List.Memᴰ.tail m)))
  from_listed (out_of_place {a = a} {x = x} f) =
      by_test (is_in_place job a x) (λ s. absurd (f (can_stand_of job a x s))) (λ s. rw s (mathlib.Core.List.Memᴰ.head refl))
  from_listed ill_formed = mathlib.Core.List.Memᴰ.head refl
  from_listed (stops_early {n = n} {a = a} f) = end_listed n a f

  listed_from : (n l : ℕ) (a : Above) (ls : List (Option Line)) → Memᴰ l (broken_from job n a ls) → BreachFrom job n a ls l
  unfolding broken_from
  listed_from n l a [] m = listed_end job n l a m
  listed_from n l a (None ∷ ls) m = rw (one_line m) ill_formed
  listed_from n l a (Some x ∷ ls) m =
      by_test (is_in_place job a x)
      (λ s.
      let below : Memᴰ l (broken_from job (suc n) (with_line a x) ls) → BreachFrom job n a (Some x ∷ ls) l =
      λ i. further_down (can_stand_of job a x s) (listed_from (suc n) l (with_line a x) ls i) in
      by_test (keeps_rules job a x ls)
      (λ k. below (rw (s, k) at m))
      (λ k. ⊎_elim (λ e. rw e (at_line (fails_line job rise a x ls s k))) below (mathlib.Core.List.Memᴰ.cases_cons (rw (s, k) at m))))
      (λ s. rw (one_line (rw s at m)) (out_of_place (not_in_place job a x s)))

-- a line is listed exactly if it is broken
pub every_broken : (job : Job) (a : AcceptedJob job) (text : List ℕ) (l : ℕ) → Memᴰ l (broken_lines job text) ↔ Breach job text l
unfolding broken_lines
every_broken job a text l = (listed_from job a.numbers_rise 1 l before_layout (lines_read text), from_listed job a.numbers_rise)
