-- best(j) and the choice of row j in one pass over the nets, as a loop makes it: keep the best sum so far, and the net that first
-- gave it. Assumes nothing.
use Prim.Native.Nat.{ℕ, suc, ◌-◌, ◌≤◌, ◌<◌, max}
use mathlib.Core.Path.{◌≡◌, refl, sym, ap, ap₂, subst}
use mathlib.Core.Bool.{Bool, true, false, cond, ◌&&◌, and-false}
use Rattle.std.specs.Prelude.{Option, None, Some}
use mathlib.Core.List.{List, [], ◌∷◌}
use native.Mathlib.Omega.{arith}
use lib.Dec.{ltb, eqb}
use lib.ListN.{get_or}
use borrow.Author.Tests.{ltb-true, ltb-false, eqb-true, eqb-false, eq-eqb, ne_eqb}
use Rattle.lists.specs.Lists.{first_of}
use Rattle.lists.proofs.Cases.{by_test, and_both}
use Rattle.board.specs.declared.Net.{Net}
use Rattle.board.specs.Job.{Job}
use Rattle.packing.specs.Fits.{fits_at}
use Rattle.packing.specs.Best.{sum_with, best_at, table, best_last}
use Rattle.packing.specs.Walk.{reaches, choice}
use Rattle.packing.proofs.UpperBound.{best_at_rest, best_last_suc}

-- a pick: the best sum so far, and the net that first gave it, if any
pub record PassPick : Type 0 where
  pub sum : ℕ
  pub net : Option Net

module _ (job : Job) (earlier : List ℕ) (t : ℕ) where
  -- the pick after a pass over nets, from the pick p on: a net that fits takes over where its sum is strictly larger
  unfoldable pub one_pass : ℕ → List ℕ → List Net → PassPick → PassPick
  one_pass j below [] p = p
  one_pass j below (n ∷ ns) p =
      one_pass j below ns (cond (fits_at job earlier t n j && ltb p.sum (sum_with job.board below n)) (record { sum = sum_with job.board below n; net = Some n }) p)

  module _ (j : ℕ) (below : List ℕ) where
    -- net n's shortest placement may stand with its top at row j
    abbrev pub fits : Net → Bool
    fits n = fits_at job earlier t n j

    -- the sum with the top of net n at row j
    abbrev pub sum_of_net : Net → ℕ
    sum_of_net n = sum_with job.board below n

    -- the pass over these nets, from the pick p on
    abbrev pub passed_over : List Net → PassPick → PassPick
    passed_over ns p = one_pass j below ns p

    -- best(j) over these nets
    abbrev best_over : List Net → ℕ
    best_over ns = best_at job earlier t j below ns

    -- the pick that takes net n
    abbrev pub took : Net → PassPick
    took n = record { sum = sum_of_net n; net = Some n }

    -- what one net does to the pass and to best
    pub scan_take : (n : Net) (ns : List Net) (p : PassPick) → fits n ≡ true → ltb p.sum (sum_of_net n) ≡ true → passed_over (n ∷ ns) p ≡ passed_over ns (took n)
    unfolding one_pass
    scan_take n ns p e l = ap (λ b. passed_over ns (cond b (took n) p)) (and_both _ _ e l)

    pub scan_keep : (n : Net) (ns : List Net) (p : PassPick) → fits n ≡ true → ltb p.sum (sum_of_net n) ≡ false → passed_over (n ∷ ns) p ≡ passed_over ns p
    unfolding one_pass
    scan_keep n ns p e l = ap₂ (λ a b. passed_over ns (cond (a && b) (took n) p)) e l

    pub scan_pass : (n : Net) (ns : List Net) (p : PassPick) → fits n ≡ false → passed_over (n ∷ ns) p ≡ passed_over ns p
    unfolding one_pass
    scan_pass n ns p e = ap (λ b. passed_over ns (cond (b && ltb p.sum (sum_of_net n)) (took n) p)) e

    at_fits : (n : Net) (ns : List Net) → fits n ≡ true → best_over (n ∷ ns) ≡ max (sum_of_net n) (best_over ns)
    unfolding best_at
    at_fits n ns e = rw e

    at_pass : (n : Net) (ns : List Net) → fits n ≡ false → best_over (n ∷ ns) ≡ best_over ns
    unfolding best_at
    at_pass n ns e = rw e

    pub scan_sum : (ns : List Net) (p : PassPick) → get_or below 0 0 ≤ p.sum → (passed_over ns p).sum ≡ max p.sum (best_over ns)
    unfolding one_pass best_at
    scan_sum [] p h = omega arith
    scan_sum (n ∷ ns) p h =
        by_test (fits n)
        (λ e. by_test (ltb p.sum (sum_of_net n))
        (λ l. omega (arith, ltb-true p.sum (sum_of_net n) l, ap (λ (q : PassPick). q.sum) (scan_take n ns p e l), at_fits n ns e, scan_sum ns (took n) (omega (arith, ltb-true p.sum (sum_of_net n) l))))
        (λ l. omega (arith, ltb-false p.sum (sum_of_net n) l, ap (λ (q : PassPick). q.sum) (scan_keep n ns p e l), at_fits n ns e, scan_sum ns p h)))
        (λ e. omega (arith, ap (λ (q : PassPick). q.sum) (scan_pass n ns p e), at_pass n ns e, scan_sum ns p h))

    -- the first of these nets that fits and has the sum v
    abbrev first : ℕ → List Net → Option Net
    first v ns = first_of (λ n. fits n && eqb (sum_of_net n) v) ns

    -- q is what the nets make of p: the net of p where its sum is p's, or else the first that has its sum
    abbrev Picked : List Net → PassPick → PassPick → Type 0
    Picked ns p q = q.net ≡ cond (eqb q.sum p.sum) p.net (first q.sum ns)

    picked_take : (n : Net) (ns : List Net) (p q : PassPick) → fits n ≡ true → p.sum < sum_of_net n → sum_of_net n ≤ q.sum → Picked ns (took n) q → Picked (n ∷ ns) p q
    unfolding first_of
    picked_take n ns p q e l m h =
        let a : eqb q.sum p.sum ≡ false = ne_eqb _ _ (λ (z : q.sum ≡ p.sum). omega arith) in
        by_test (eqb q.sum (sum_of_net n))
        (λ z. let b : eqb (sum_of_net n) q.sum ≡ true = eq-eqb (sum_of_net n) q.sum (sym (eqb-true q.sum (sum_of_net n) z)) in rw (a, e, b) (rw z at h))
        (λ z. let b : eqb (sum_of_net n) q.sum ≡ false = ne_eqb (sum_of_net n) q.sum (λ y. eqb-false q.sum (sum_of_net n) z (sym y)) in rw (a, e, b) (rw z at h))

    picked_keep : (n : Net) (ns : List Net) (p q : PassPick) → sum_of_net n ≤ p.sum → p.sum ≤ q.sum → Picked ns p q → Picked (n ∷ ns) p q
    unfolding first_of
    picked_keep n ns p q l m h =
        by_test (eqb q.sum p.sum)
        (λ z. rw z (rw z at h))
        (λ z.
        let b : eqb (sum_of_net n) q.sum ≡ false = ne_eqb _ _ (λ (y : sum_of_net n ≡ q.sum). eqb-false q.sum p.sum z (omega arith)) in
        rw (z, b, and-false (fits n)) (rw z at h))

    picked_pass : (n : Net) (ns : List Net) (p q : PassPick) → fits n ≡ false → Picked ns p q → Picked (n ∷ ns) p q
    unfolding first_of
    picked_pass n ns p q e h = rw e h

    pub scan_net : (ns : List Net) (p : PassPick) → get_or below 0 0 ≤ p.sum → Picked ns p (passed_over ns p)
    unfolding one_pass
    scan_net [] p h = rw (eq-eqb p.sum p.sum refl)
    scan_net (n ∷ ns) p h =
        by_test (fits n)
        (λ e. by_test (ltb p.sum (sum_of_net n))
        (λ l.
        let l' : p.sum < sum_of_net n = ltb-true _ _ l in
        subst (Picked (n ∷ ns) p) (sym (scan_take n ns p e l))
        (picked_take n ns p (passed_over ns (took n)) e l' (omega (arith, scan_sum ns (took n) (omega arith))) (scan_net ns (took n) (omega arith))))
        (λ l.
        let l' : sum_of_net n ≤ p.sum = ltb-false _ _ l in
        subst (Picked (n ∷ ns) p) (sym (scan_keep n ns p e l))
        (picked_keep n ns p (passed_over ns p) l' (omega (arith, scan_sum ns p h)) (scan_net ns p h))))
        (λ e. subst (Picked (n ∷ ns) p) (sym (scan_pass n ns p e)) (picked_pass n ns p (passed_over ns p) e (scan_net ns p h)))

  -- the pass over all the nets at row H − k, from best(H − k + 1) and no net
  abbrev pub row_pick : ℕ → PassPick
  row_pick k = one_pass (job.board.rows - k) (table job earlier t k) job.nets (record { sum = best_last job earlier t k; net = None })

  pub row_sum : (k : ℕ) → (row_pick k).sum ≡ best_last job earlier t (suc k)
  unfolding best_last
  row_sum k =
      omega (
        arith,
        best_last_suc job earlier t k,
        best_at_rest job earlier t (job.board.rows - k) (table job earlier t k) job.nets,
        scan_sum (job.board.rows - k) (table job earlier t k) job.nets (record { sum = best_last job earlier t k; net = None }) (omega arith),
      )

  pub row_net : (k : ℕ) → (row_pick k).net ≡ choice job earlier t k
  unfolding best_last choice reaches
  row_net k =
      rw (row_sum k) at (scan_net (job.board.rows - k) (table job earlier t k) job.nets (record { sum = best_last job earlier t k; net = None }) (omega arith))
