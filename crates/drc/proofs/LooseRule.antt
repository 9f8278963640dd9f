-- The rule of a loose line: the test fails exactly at a broken one. Assumes nothing.
use Prim.Native.Nat.{ℕ, ◌<◌}
use mathlib.Core.Path.{◌≡◌, ap}
use mathlib.Core.Logic.{⊎_elim}
use mathlib.Core.Bool.{true, false, not, ◌&&◌}
use mathlib.Core.List.{List, ◌++◌, map, Memᴰ}
use native.Mathlib.Omega.{arith}
use lib.Dec.{eqb, ltb}
use borrow.Author.Tests.{ltb-true, ltb-false, lt-ltb, not-true, not-false}
use Rattle.lists.specs.Lists.{any_of, all_of}
use Rattle.lists.proofs.Cases.{and_split, and_both}
use Rattle.lists.proofs.Laws.{all_of_at, all_of_of, any_of_mem, mem_any_of}
use Rattle.lists.proofs.Joins.{all_of_false}
use Rattle.board.specs.Job.{Job}
use Rattle.drc.specs.Breach.{LooseBreach, other_net, loose_again, loose_order}
use Rattle.drc.specs.Judge.{is_unlined, is_sound_loose}
use Rattle.drc.proofs.FailedTests.{and_fails, unlisted, not_found}

module _ (job : Job) (wired ns : List ℕ) (k : ℕ) where
  abbrev job_numbers : List ℕ
  job_numbers = map (λ n. n.number) job.nets

  -- what a loose line that passes has
  pub record LooseKept : Type 0 where
    pub known : Memᴰ k (map (λ n. n.number) job.nets)
    pub new : Memᴰ k (wired ++ ns) → ⊥
    pub above : (j : ℕ) → Memᴰ j ns → j < k

  pub loose_kept : is_sound_loose job (wired ++ ns) ns k ≡ true → LooseKept
  unfolding is_sound_loose is_unlined
  loose_kept h =
      let a = and_split (any_of (eqb k) job_numbers && not (any_of (eqb k) (wired ++ ns))) (all_of (λ j. ltb j k) ns) h in
      let b = and_split (any_of (eqb k) job_numbers) (not (any_of (eqb k) (wired ++ ns))) a.0 in
      record {
        known = any_of_mem k job_numbers b.0;
        new = unlisted k (wired ++ ns) (not-true (any_of (eqb k) (wired ++ ns)) b.1);
        above = λ j i. ltb-true j k (all_of_at (λ j. ltb j k) ns j a.1 i);
      }

  pub kept_loose : LooseKept → is_sound_loose job (wired ++ ns) ns k ≡ true
  unfolding is_sound_loose is_unlined
  kept_loose r =
      and_both _ _ (and_both (any_of (eqb k) job_numbers) (not (any_of (eqb k) (wired ++ ns)))
      (mem_any_of k job_numbers r.known) (ap not (not_found k (wired ++ ns) r.new)))
      (all_of_of (λ j. ltb j k) ns (λ j i. lt-ltb j k (r.above j i)))

  pub fails_loose : is_sound_loose job (wired ++ ns) ns k ≡ false → LooseBreach job wired ns k
  unfolding is_sound_loose is_unlined
  fails_loose f =
      ⊎_elim
      (λ a. ⊎_elim
      (λ b. other_net (unlisted k job_numbers b))
      (λ b. loose_again (any_of_mem k (wired ++ ns) (not-false (any_of (eqb k) (wired ++ ns)) b)))
      (and_fails (any_of (eqb k) job_numbers) (not (any_of (eqb k) (wired ++ ns))) a))
      (λ a. let m = all_of_false (λ j. ltb j k) ns a in loose_order {j = m.0} m.1 (ltb-false m.0 k m.2))
      (and_fails (any_of (eqb k) job_numbers && not (any_of (eqb k) (wired ++ ns))) (all_of (λ j. ltb j k) ns) f)

  pub passes_loose : is_sound_loose job (wired ++ ns) ns k ≡ true → LooseBreach job wired ns k → ⊥
  passes_loose h (other_net f) = f (loose_kept h).known
  passes_loose h (loose_again i) = (loose_kept h).new i
  passes_loose h (loose_order {j = j} i l) = let z = (loose_kept h).above j i in omega arith
