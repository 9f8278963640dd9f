-- The net that a line is of, looked up in the tables of a job. Assumes nothing.
use Prim.Native.Nat.{ℕ, ◌-◌}
use mathlib.Core.Path.{◌≡◌, refl, sym, ap, ◌∙◌}
use Rattle.std.specs.Prelude.{Option, None, Some, IfSome, position}
use mathlib.Core.List.{List, map}
use native.Mathlib.Omega.{arith}
use lib.Dec.{eqb}
use lib.ListN.{length, take, replicate, length-map}
use lib.Seq.{take-append_seam}
use Rattle.board.specs.declared.Net.{Net}
use Rattle.board.specs.Job.{Job}
use Rattle.candidates.specs.Placed.{padded}
use Rattle.judging.specs.Values.{position_numbered, NetIs}
use Rattle.judging.proofs.Indexes.{index_number, number_position}
use Rattle.judging.specs.declared.found.NetFound.{NetFound}
use Rattle.layoutsteps.specs.declared.tables.NetSlot.{NetSlot}
use Rattle.layoutsteps.specs.Found.{SlotFor, FoundFor, IsNetOf}

-- the first place of a number among those of nets
pub place_is : (ns : List Net) (numbers : List ℕ) (count : ℕ) → take count numbers ≡ map (λ n. n.number) ns → (k : ℕ) →
    position (λ n. eqb n k) (take count numbers) ≡ position_numbered k ns
place_is ns numbers count e k = ap (λ (ys : List ℕ). position (λ n. eqb n k) ys) e ∙ number_position k ns

-- the numbers of a job's nets, back from the array
pub numbers_back : (job : Job) (numbers : List ℕ) → numbers ≡ padded 0 (map (λ n. n.number) job.nets) → take (length job.nets) numbers ≡ map (λ n. n.number) job.nets
unfolding padded
numbers_back job numbers e =
    let xs = map (λ (n : Net). n.number) job.nets in
    ap (λ (i : ℕ). take i numbers) (sym (length-map job.nets (λ n. n.number))) ∙ ap (λ (ys : List ℕ). take (length xs) ys) e ∙
    take-append_seam xs (replicate (512 - length xs) 0)

-- what is looked up in a job's own tables: no net of the job, and one
module _ (job : Job) (numbers : List ℕ) (before : List (Option ℕ)) (e : numbers ≡ padded 0 (map (λ n. n.number) job.nets)) where
  pub none_looked : (k : Option ℕ) → SlotFor numbers before (length job.nets) k None → IsNetOf job k None
  none_looked None slot = refl
  none_looked (Some k) slot = record { index_is = slot.index_is job.nets refl (numbers_back job numbers e); net_is = tt }

  pub some_looked : (k : Option ℕ) (at : NetSlot) → SlotFor numbers before (length job.nets) k (Some at) → (found : NetFound) → found.index ≡ at.index → NetIs job found → IsNetOf job k (Some found)
  some_looked None at slot found same is =
      let none : Some at.index ≡ None = slot.index_is job.nets refl (numbers_back job numbers e) in
      let z : ◌≡◌ {A = ℕ} 0 1 = cc in absurd (omega arith)
  some_looked (Some k) at slot found same is = record { index_is = ap Some same ∙ slot.index_is job.nets refl (numbers_back job numbers e); net_is = is }

-- what is known of the net of a line with the number k
pub record FoundAt (job : Job) (k : Option ℕ) (found : Option NetFound) : Type 0 where
  pub of_job : IfSome k (λ i. FoundFor job i found)
  pub on_board : IfSome found (λ n. n.net.board ≡ job.board)
  pub number_is : IfSome found (λ n. k ≡ Some n.net.net.number)

pub found_at : (job : Job) (k : Option ℕ) (found : Option NetFound) → IsNetOf job k found → FoundAt job k found
found_at job None found is = rw is (record { of_job = tt; on_board = tt; number_is = tt })
found_at job (Some k) None f = record { of_job = f; on_board = tt; number_is = tt }
found_at job (Some k) (Some n) f =
    record {
      of_job = f;
      on_board = sym f.net_is.board_is;
      number_is = ap Some (sym (index_number job.nets k n.index f.index_is).1 ∙ ap (λ (m : Net). m.number) f.net_is.net_is);
    }
