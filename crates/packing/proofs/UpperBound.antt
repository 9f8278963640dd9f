-- No rival sequence within the last k rows has a larger sum than best of those rows; so none beats best(1). Assumes nothing.
use Prim.Native.Nat.{ℕ, zero, suc, ◌+◌, ◌-◌, ◌≤◌, ◌<◌}
use mathlib.Core.Path.{◌≡◌, refl, ap}
use mathlib.Core.Logic.{⊎_elim}
use mathlib.Core.Bool.{Bool, true}
use mathlib.Core.List.Memᴰ
use mathlib.Core.List.{List, [], ◌∷◌, Memᴰ}
use native.Mathlib.Omega.{arith}
use native.Mathlib.Nat.{sub-zero}
use native.Mathlib.Decide.{le_ind}
use lib.Dec.{leb}
use borrow.Author.Tests.{leb-true, leb-false}
use lib.ListN.{get_or}
use Rattle.lists.specs.Lists.{Each}
use Rattle.lists.proofs.Cases.{by_test}
use Rattle.lists.proofs.Laws.{Each-map}
use Rattle.board.specs.declared.Net.{Net}
use Rattle.board.specs.Length.{needed}
use Rattle.board.specs.Weight.{weight}
use Rattle.board.specs.Job.{Job}
use Rattle.board.specs.Placement.{Placement, bottom}
use Rattle.board.specs.Shrunk.{shrunk}
use Rattle.board.specs.Rival.{Apart, Rival, rival_sum}
use Rattle.board.proofs.ShortestShape.{needed_pos}
use Rattle.board.proofs.Tops.{shortest_bottom, shrink}
use Rattle.packing.specs.Fits.{fits_at}
use Rattle.packing.specs.Best.{sum_with, best_at, table, best_last, best}
use Rattle.packing.proofs.Fitting.{placeable_fits}

-- placements that rise and share no row stand one below the other
pub all_below : (p : Placement) (qs : List Placement) → Each (λ q. p.top < q.top) qs → Each (Apart p) qs → Each (λ q. bottom p < q.top) qs
all_below p [] r a = tt
all_below p (q ∷ qs) r a = (
  by_test (leb q.top (bottom p))
      (λ e. absurd (a.0 q.top (omega arith) (leb-true _ _ e) (omega arith) (omega arith)))
      (λ e. leb-false _ _ e),
  all_below p qs r.1 a.1,
)

module _ (job : Job) (earlier : List ℕ) (t : ℕ) where
  -- net n's shortest placement may stand with its top at row j
  abbrev fits : Net → ℕ → Bool
  fits n j = fits_at job earlier t n j

  -- best of the last k rows
  abbrev best_here : ℕ → ℕ
  best_here k = best_last job earlier t k

  -- ---- one row of the table
  pub best_at_rest : (j : ℕ) (below : List ℕ) (ns : List Net) → get_or below 0 0 ≤ best_at job earlier t j below ns
  unfolding best_at
  best_at_rest j below [] = omega arith
  best_at_rest j below (n ∷ ns) =
      let h = best_at_rest j below ns in
      by_test (fits n j) (λ e. rw e (omega arith)) (λ e. rw e h)

  pub best_at_net : (j : ℕ) (below : List ℕ) (ns : List Net) (n : Net) → Memᴰ n ns → fits n j ≡ true → sum_with job.board below n ≤ best_at job earlier t j below ns
  unfolding best_at
  best_at_net j below [] n i f = absurd (Memᴰ.not-nil i)
  best_at_net j below (m ∷ ns) n i f =
      ⊎_elim
      (λ (q : n ≡ m). rw (rw q at f) (rw q (omega arith)))
      (λ i'. let h = best_at_net j below ns n i' f in by_test (fits m j) (λ e. rw e (omega arith)) (λ e. rw e h))
      (Memᴰ.cases_cons i)

  -- ---- the table
  pub table_at : (k i : ℕ) → i ≤ k → get_or (table job earlier t k) i 0 ≡ best_here (k - i)
  unfolding best_last table
  table_at k zero h = rw (sub-zero k)
  table_at zero (suc i) h = absurd (omega arith)
  table_at (suc k) (suc i) h =
      let e : suc k - suc i ≡ k - i = omega arith in
      rw e (table_at k i (omega arith))

  pub best_last_suc : (k : ℕ) → best_here (suc k) ≡ best_at job earlier t (job.board.rows - k) (table job earlier t k) job.nets
  unfolding best_last table
  best_last_suc k = refl

  pub best_last_step : (k : ℕ) → best_here k ≤ best_here (suc k)
  unfolding best_last
  best_last_step k = rw (best_last_suc k) (best_at_rest (job.board.rows - k) (table job earlier t k) job.nets)

  -- more rows hold no less
  pub best_last_mono : (k m : ℕ) → k ≤ m → best_here k ≤ best_here m
  best_last_mono k m h = le_ind (λ x. best_here k ≤ best_here x) (omega arith) (λ x _ below. omega (arith, best_last_step x)) m h

  -- a net that fits adds its weight to what lies below it
  pub best_last_net : (k : ℕ) (n : Net) → Memᴰ n job.nets → fits n (job.board.rows - k) ≡ true → needed job.board n ≤ suc k →
      weight n + best_here (suc k - needed job.board n) ≤ best_here (suc k)
  unfolding sum_with
  best_last_net k n i f h =
      let p = needed_pos job.board n in
      let s = best_at_net (job.board.rows - k) (table job earlier t k) job.nets n i f in
      let e : k - (needed job.board n - 1) ≡ suc k - needed job.board n = omega arith in
      let a = table_at k (needed job.board n - 1) (omega arith) in
      omega (arith, best_last_suc k, ap best_here e)

  -- rivals within the last k rows
  pub rival_bound : (ps : List Placement) (k : ℕ) → Rival job earlier t ps → Each (λ p. job.board.rows < p.top + k) ps → rival_sum ps ≤ best_here k
  unfolding rival_sum
  rival_bound [] k r a = omega arith
  rival_bound (p ∷ ps) k r a =
      let w = r.placeable.0 in
      let s = shrink job.board p w.legal in
      let q = shrunk job.board p in
      let f = placeable_fits job earlier t p.net q.top
      (record { of_job = w.of_job; legal = s.legal; clear = s.clear job t w.clear; eligible = w.eligible }) in
      let b = shortest_bottom job.board p.net q.top in
      let m : ℕ = job.board.rows - q.top in
      let row : job.board.rows - m ≡ q.top = omega (arith, s.legal) in
      let here = best_last_net m p.net w.of_job (rw row f) (omega (arith, s.legal)) in
      let below = rival_bound ps (suc m - needed job.board p.net)
      (record { placeable = r.placeable.1; rising = r.rising.1; apart = r.apart.1 })
      (Each-map ps (λ x h. omega (arith, s.legal, s.to_bottom)) (all_below p ps r.rising.0 r.apart.0)) in
      omega (arith, best_last_mono (suc m) k (omega (arith, s.legal, s.from_top)))

  pub rival_le_best : (ps : List Placement) → Rival job earlier t ps → rival_sum ps ≤ best job earlier t 1
  unfolding best
  rival_le_best ps r = rival_bound ps (job.board.rows + 1 - 1) r (Each-map ps (λ p w. omega (arith, w.legal.from_one)) r.placeable)
