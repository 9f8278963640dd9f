-- The net of a number, and the sums of drawn wires. Assumes nothing.
use Prim.Native.Nat.{ℕ, ◌+◌, ◌<◌}
use mathlib.Core.Path.{◌≡◌, refl, sym, ap, ap₂, ◌∙◌}
use mathlib.Core.Bool.{true≢false}
use Rattle.std.specs.Prelude.{Some}
use mathlib.Core.List.{List, [], ◌∷◌, map, Memᴰ}
use lib.Dec.{eqb}
use borrow.Author.Tests.{eqb-true, eq-eqb}
use Rattle.lists.specs.Lists.{Each, EachPair}
use Rattle.lists.proofs.Cases.{by_option}
use Rattle.lists.proofs.Laws.{first_of_some, first_of_none}
use Rattle.board.specs.declared.Net.{Net}
use Rattle.board.specs.Weight.{weight, weight_sum}
use Rattle.board.specs.Job.{Job}
use Rattle.board.specs.Placement.{Placement}
use Rattle.board.specs.Rival.{rival_sum}
use Rattle.board.specs.Unbeaten.{numbers}
use Rattle.board.proofs.SameNumber.{same_number}
use Rattle.layout.specs.Drawing.{wire_of}
use Rattle.layout.specs.Drawn.{net_numbered}
use Rattle.sound.specs.Wires.{weight_by, weight_of, sum_over, wire_numbers, wires_sum}

pub wire_numbers_lem : (job : Job) (t : ℕ) (ps : List Placement) → wire_numbers (map (wire_of job.board t) ps) ≡ numbers ps
unfolding wire_of
wire_numbers_lem job t [] = refl
wire_numbers_lem job t (p ∷ ps) = ap (λ (l : List ℕ). p.net.number ∷ l) (wire_numbers_lem job t ps)

pub net_some : (job : Job) (k : ℕ) (n : Net) → net_numbered job k ≡ Some n → (Memᴰ n job.nets) × (n.number ≡ k)
unfolding net_numbered
net_some job k n h = let f = first_of_some (λ m. eqb m.number k) job.nets n h in (f.0, eqb-true n.number k f.1)

module _ (job : Job) (rise : EachPair (λ a b. a.number < b.number) job.nets) where
  pub net_of : (n : Net) → Memᴰ n job.nets → net_numbered job n.number ≡ Some n
  unfolding net_numbered
  net_of n i =
      by_option (net_numbered job n.number)
      (λ e. absurd (true≢false (sym (eq-eqb n.number n.number refl) ∙ first_of_none (λ m. eqb m.number n.number) job.nets n e i)))
      (λ m e. let f = net_some job n.number m e in e ∙ ap Some (same_number job.nets rise m n f.0 i f.1))

  pub weight_of_lem : (n : Net) → Memᴰ n job.nets → weight_of job n.number ≡ weight n
  unfolding weight_of weight_by
  weight_of_lem n i = rw (net_of n i)

  pub placed_sum : (ps : List Placement) → Each (λ p. Memᴰ p.net job.nets) ps → sum_over (weight_of job) (numbers ps) ≡ rival_sum ps
  unfolding rival_sum sum_over
  placed_sum [] a = refl
  placed_sum (p ∷ ps) a = ap₂ (λ x y. x + y) (weight_of_lem p.net a.0) (placed_sum ps a.1)

  pub wires_sum_of : (t : ℕ) (ps : List Placement) → Each (λ p. Memᴰ p.net job.nets) ps → wires_sum job (map (wire_of job.board t) ps) ≡ rival_sum ps
  unfolding wires_sum
  wires_sum_of t ps a = ap (sum_over (weight_of job)) (wire_numbers_lem job t ps) ∙ placed_sum ps a

  pub nets_sum : (ns : List Net) → Each (λ n. Memᴰ n job.nets) ns → sum_over (weight_of job) (map (λ n. n.number) ns) ≡ weight_sum ns
  unfolding weight_sum sum_over
  nets_sum [] a = refl
  nets_sum (n ∷ ns) a = ap₂ (λ x y. x + y) (weight_of_lem n a.0) (nets_sum ns a.1)
