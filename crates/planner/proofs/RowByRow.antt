-- Placements by rising top row are those of each row, one row after another. Assumes nothing.
use Prim.Native.Nat.{ℕ, zero, suc, ◌+◌, ◌-◌, ◌≤◌, ◌<◌}
use mathlib.Core.Path.{◌≡◌, refl, ap, ◌∙◌}
use mathlib.Core.Bool.{true, false}
use Rattle.std.specs.Prelude.{Option, None, Some}
use mathlib.Core.List.{List, [], ◌∷◌, ◌++◌}
use native.Mathlib.Omega.{arith}
use lib.Dec.{eqb}
use borrow.Author.Tests.{eqb-true, eqb-false, ne_eqb}
use Rattle.lists.specs.Lists.{Each, EachPair, first_of}
use Rattle.lists.proofs.Cases.{by_test}
use Rattle.lists.proofs.Laws.{Each-map, Each-both}
use Rattle.board.specs.Placement.{Placement}

-- the placement with its top at a row
abbrev pub top_at : ℕ → List Placement → Option Placement
top_at row ps = first_of (λ p. eqb p.top row) ps

abbrev pub list_of : Option Placement → List Placement
list_of None = []
list_of (Some p) = p ∷ []

top_here : (row : ℕ) (p : Placement) (ps : List Placement) → eqb p.top row ≡ true → top_at row (p ∷ ps) ≡ Some p
unfolding first_of
top_here row p ps e = rw e

top_later : (row : ℕ) (p : Placement) (ps : List Placement) → eqb p.top row ≡ false → top_at row (p ∷ ps) ≡ top_at row ps
unfolding first_of
top_later row p ps e = rw e

top_none : (row : ℕ) (ps : List Placement) → Each (λ p. row < p.top) ps → top_at row ps ≡ None
unfolding first_of
top_none row [] a = refl
top_none row (p ∷ ps) a = top_later row p ps (ne_eqb p.top row (λ e. omega (arith, a.0, e))) ∙ top_none row ps a.1

module _ (rows : ℕ) where
  -- those of the last k rows
  unfoldable pub by_row : ℕ → List Placement → List Placement
  by_row zero ps = []
  by_row (suc k) ps = list_of (top_at (rows - k) ps) ++ by_row k ps

  by_row_nil : (k : ℕ) → by_row k [] ≡ []
  unfolding by_row first_of
  by_row_nil zero = refl
  by_row_nil (suc k) = by_row_nil k

  by_row_above : (k : ℕ) (p : Placement) (ps : List Placement) → p.top + k ≤ rows → by_row k (p ∷ ps) ≡ by_row k ps
  unfolding by_row
  by_row_above zero p ps h = refl
  by_row_above (suc k) p ps h =
      rw (top_later (rows - k) p ps (ne_eqb p.top (rows - k) (λ e. omega arith)))
      (ap (λ l. list_of (top_at (rows - k) ps) ++ l) (by_row_above k p ps (omega arith)))

  by_row_some : (k : ℕ) (p : Placement) (ps : List Placement) → eqb p.top (rows - k) ≡ true → by_row (suc k) (p ∷ ps) ≡ p ∷ by_row k (p ∷ ps)
  unfolding by_row
  by_row_some k p ps e = rw (top_here (rows - k) p ps e)

  by_row_none : (k : ℕ) (ps : List Placement) → top_at (rows - k) ps ≡ None → by_row (suc k) ps ≡ by_row k ps
  unfolding by_row
  by_row_none k ps e = rw e

  pub by_row_lem : (k : ℕ) (ps : List Placement) → k ≤ rows → EachPair (λ p q. p.top < q.top) ps → Each (λ p. (rows < p.top + k) × (p.top ≤ rows)) ps → by_row k ps ≡ ps
  by_row_lem zero [] h r a = by_row_nil 0
  by_row_lem zero (p ∷ ps) h r a = absurd (omega (arith, a.0))
  by_row_lem (suc k) [] h r a = by_row_nil (suc k)
  by_row_lem (suc k) (p ∷ ps) h r a =
      by_test (eqb p.top (rows - k))
      (λ e.
      let q : p.top ≡ rows - k = eqb-true p.top (rows - k) e in
      by_row_some k p ps e ∙ ap (λ l. p ∷ l)
      (by_row_above k p ps (omega arith) ∙ by_row_lem k ps (omega arith) r.1 (Each-both ps (λ x u v. (omega arith, omega arith)) r.0 a.1)))
      (λ e.
      let q : rows - k < p.top = omega (arith, a.0, eqb-false p.top (rows - k) e) in
      let over : Each (λ x. rows - k < x.top) (p ∷ ps) = (q, Each-map ps (λ x u. omega arith) r.0) in
      by_row_none k (p ∷ ps) (top_none (rows - k) (p ∷ ps) over) ∙
      by_row_lem k (p ∷ ps) (omega arith) r ((omega (arith, a.0), omega (arith, a.0)), Each-both ps (λ x u v. (omega arith, omega arith)) r.0 a.1))
