-- Rows are clear in a map exactly if none of them is set; in the block map of a track, exactly if none of them is blocked, so that a
-- placement is clear of blocks exactly if its covered rows are clear. Assumes nothing.
use Prim.Native.Nat.{ℕ, zero, suc, ◌+◌, ◌≤◌, ◌<◌}
use mathlib.Core.Path.{◌≡◌, refl, sym, ◌∙◌}
use mathlib.Core.Bool.{true, false, true≢false, and-false}
use mathlib.Core.List.{List}
use native.Mathlib.Omega.{arith}
use lib.Dec.{eqb}
use borrow.Author.Tests.{eqb-true, eqb-false}
use Rattle.lists.proofs.Cases.{by_test}
use Rattle.board.specs.Job.{Job}
use Rattle.board.specs.Placement.{Placement, Clear, covered}
use Rattle.board.specs.Tests.{clear_rows}
use Rattle.board.proofs.ExactTests.{clear_rows_lem, rows_clear}
use Rattle.blockmap.specs.Bits.{is_set, MapOf}
use Rattle.blockmap.specs.Clear.{all_unset}

-- the rows from `top` to before `end` are clear
abbrev pub ClearFrom : List ℕ → ℕ → ℕ → Type 0
ClearFrom words top end = (row : ℕ) → top ≤ row → row < end → is_set words row ≡ false

pub clear_none : (words : List ℕ) (top : ℕ) → ClearFrom words top top
clear_none words top row a b = absurd (omega arith)

-- one clear row more
pub clear_more : (words : List ℕ) (top row : ℕ) → ClearFrom words top row → is_set words row ≡ false → ClearFrom words top (row + 1)
clear_more words top row c f k a b =
    by_test (eqb k row)
    (λ t. rw (eqb-true k row t) f)
    (λ t. let d : k ≡ row → ⊥ = eqb-false k row t in c k a (omega arith))

-- a row that is set spoils every placement that covers it
pub blocked_in : (words : List ℕ) (top m row : ℕ) → top ≤ row → row < top + m → is_set words row ≡ true → all_unset words top m ≡ false
unfolding all_unset
blocked_in words top zero row h l b = absurd (omega arith)
blocked_in words top (suc m) row h l b =
    by_test (eqb row (top + m))
    (λ t.
    let e : row ≡ top + m = eqb-true row (top + m) t in
    let s : is_set words (top + m) ≡ true = rw e at b in
    rw s (and-false (all_unset words top m)))
    (λ t.
    let d : row ≡ top + m → ⊥ = eqb-false row (top + m) t in
    rw (blocked_in words top m row h (omega arith) b))

pub clear_at : (words : List ℕ) (top m : ℕ) → all_unset words top m ≡ true
    → (row : ℕ) → top ≤ row → row < top + m → is_set words row ≡ false
clear_at words top m c row h l =
    by_test (is_set words row)
    (λ b. absurd (true≢false (sym c ∙ blocked_in words top m row h l b)))
    (λ f. f)

pub clear_of : (words : List ℕ) (top m : ℕ) → ((row : ℕ) → top ≤ row → row < top + m → is_set words row ≡ false)
    → all_unset words top m ≡ true
unfolding all_unset
clear_of words top zero f = refl
clear_of words top (suc m) f =
    rw (clear_of words top m (λ row h l. f row h (omega arith)), f (top + m) (omega arith) (omega arith))

module _ (job : Job) (t : ℕ) (words : List ℕ) (map : MapOf job t words) where
  -- rows are clear in the block map of a track exactly if none of them is blocked
  pub clear_same : (top m : ℕ) → all_unset words top m ≡ clear_rows job t top m
  clear_same top m =
      by_test (all_unset words top m)
      (λ e. e ∙ sym (rows_clear job t top m (λ row a b. sym (map row) ∙ clear_at words top m e row a b)))
      (λ e.
      by_test (clear_rows job t top m)
      (λ f. absurd (true≢false (sym (clear_of words top m (λ row a b. map row ∙ clear_rows_lem job t top m f row a b)) ∙ e)))
      (λ f. e ∙ sym f))

  -- so a placement is clear of blocks exactly if its covered rows are clear
  pub placement_clear : (p : Placement) → all_unset words p.top (covered p.net p.shape) ≡ true → Clear job t p
  unfolding covered
  placement_clear p c row a b = sym (map row) ∙ clear_at words p.top (covered p.net p.shape) c row a (omega arith)

  pub clear_placement : (p : Placement) → Clear job t p → all_unset words p.top (covered p.net p.shape) ≡ true
  unfolding covered
  clear_placement p f = clear_of words p.top (covered p.net p.shape) (λ row a b. map row ∙ f row a (omega arith))
