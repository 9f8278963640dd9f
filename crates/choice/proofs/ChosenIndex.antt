-- Where numbers rise, the index of a net of the job is the place at which it stands. Assumes nothing.
use Prim.Native.Nat.{ℕ, zero, suc, ◌+◌, ◌<◌}
use mathlib.Core.Path.{◌≡◌, sym, ap, ◌∙◌}
use Rattle.std.specs.Prelude.{Some}
use mathlib.Core.List.{List, [], ◌∷◌, nil≢cons, head-eq_of_cons-eq, tail-eq_of_cons-eq}
use native.Mathlib.Omega.{arith}
use lib.Dec.{eqb}
use lib.ListN.{drop}
use lib.Seq.{drop-nil}
use borrow.Author.Tests.{eq-eqb, ne_eqb}
use Rattle.lists.specs.Lists.{Each, EachPair}
use Rattle.board.specs.declared.Net.{Net}
use Rattle.board.specs.Job.{Job}
use Rattle.std.specs.List.{position_from}
use Rattle.choice.specs.TrackPlans.{index_of}

-- the net at place x, and what follows it
pub Each-drop : {A : Type 0} (P : A → Type 0) (l : List A) (x : ℕ) {n : A} {ns : List A} → drop x l ≡ n ∷ ns → Each P l → P n
Each-drop P [] x e a = absurd (nil≢cons (sym (drop-nil x) ∙ e))
Each-drop P (m ∷ l) zero e a = rw (head-eq_of_cons-eq e) at a.0
Each-drop P (m ∷ l) (suc x) e a = Each-drop P l x e a.1

pub drop_next : {A : Type 0} (l : List A) (x : ℕ) {n : A} {ns : List A} → drop x l ≡ n ∷ ns → drop (suc x) l ≡ ns
drop_next [] x e = absurd (nil≢cons (sym (drop-nil x) ∙ e))
drop_next (m ∷ l) zero e = tail-eq_of_cons-eq e
drop_next (m ∷ l) (suc x) e = drop_next l x e

index_place : (i : ℕ) (l : List Net) (x : ℕ) {n : Net} {ns : List Net} → EachPair (λ a b. a.number < b.number) l → drop x l ≡ n ∷ ns →
    position_from (λ m. eqb m.number n.number) i l ≡ Some (i + x)
index_place i [] x r e = absurd (nil≢cons (sym (drop-nil x) ∙ e))
index_place i (m ∷ l) zero {n} r e = rw (eq-eqb m.number n.number (ap (λ (k : Net). k.number) (head-eq_of_cons-eq e))) (ap (λ (k : ℕ). Some k) (omega arith))
index_place i (m ∷ l) (suc x) {n} r e =
    let h : m.number < n.number = Each-drop (λ b. m.number < b.number) l x e r.0 in
    rw (ne_eqb m.number n.number (λ (z : m.number ≡ n.number). omega arith)) (index_place (i + 1) l x r.1 e ∙ ap (λ (k : ℕ). Some k) (omega arith))

pub index_of_place : (job : Job) (x : ℕ) {n : Net} {ns : List Net} → EachPair (λ a b. a.number < b.number) job.nets →
    drop x job.nets ≡ n ∷ ns → index_of job (Some n) ≡ Some x
unfolding index_of
index_of_place job x r e = index_place 0 job.nets x r e ∙ ap (λ (k : ℕ). Some k) (omega arith)
