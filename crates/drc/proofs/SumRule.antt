-- The sum rule: the test of a track line fails exactly at a false sum. Assumes nothing.
use Prim.Native.Nat.{ℕ, ◌+◌}
use mathlib.Core.Path.{◌≡◌, refl, ap}
use mathlib.Core.Bool.{true, false, not, ◌||◌, true≢false}
use Rattle.std.specs.Prelude.{Option, None, Some}
use mathlib.Core.List.{List, [], ◌∷◌, ◌++◌, map}
use native.Mathlib.Omega.{arith}
use lib.Dec.{eqb}
use borrow.Author.Tests.{eqb-false, ne_eqb, not-false}
use Rattle.board.specs.Job.{Job}
use Rattle.layout.specs.Tree.{Wire, Line, opens, track, wire, loose, closes}
use Rattle.sound.specs.Wires.{weight_of, sum_over, wire_numbers, wires_sum}
use Rattle.drc.specs.Standing.{in_layout}
use Rattle.drc.specs.Breach.{EndsWires, next_track, first_loose, last_line, FalseSum}
use Rattle.drc.specs.Judge.{none_loose, ends_track, is_in_turn, is_in_place, is_true_sum}
use Rattle.drc.proofs.FailedTests.{or_fails}
use Rattle.drc.proofs.InPlace.{in_place_of}

module _ (job : Job) (u s : ℕ) where
  -- a line that is no wire can stand behind the wires of track u exactly if it ends them
  pub ends_of : (x : Line) → EndsWires x → (earlier : List ℕ) (ws : List Wire) → ends_track job u x ≡ is_in_place job (in_layout u earlier ws []) x
  unfolding is_in_place is_in_turn none_loose
  ends_of (track t v) next_track earlier ws = refl
  ends_of (loose k) first_loose earlier ws = refl
  ends_of closes last_line earlier ws = refl
  ends_of opens e earlier ws = elim e [ ]
  ends_of (wire w) e earlier ws = elim e [ ]

  -- a false sum, where `sum` has the wires above the lines ls
  pub record SumFails (sum : ℕ) (ls : List (Option Line)) : Type 0 where
    pub wires : List Wire
    pub next : Line
    pub rest : List (Option Line)
    pub lines_below : ls ≡ map (λ v. Some (wire v)) wires ++ Some next ∷ rest
    pub ends_wires : EndsWires next
    pub ends : ends_track job u next ≡ true
    pub differs : sum + wires_sum job wires ≡ s → ⊥

  ends_sum : (sum : ℕ) (x : Line) (ls : List (Option Line)) → EndsWires x → (not (ends_track job u x) || eqb sum s) ≡ false → SumFails sum (Some x ∷ ls)
  unfolding wires_sum sum_over
  ends_sum sum x ls n f =
      let o = or_fails (not (ends_track job u x)) (eqb sum s) f in
      record {
        wires = [];
        next = x;
        rest = ls;
        lines_below = refl;
        ends_wires = n;
        ends = not-false (ends_track job u x) o.0;
        differs = λ (e : sum + 0 ≡ s). eqb-false sum s o.1 (omega arith);
      }

  pub sum_fails : (sum : ℕ) (ls : List (Option Line)) → is_true_sum job u s sum ls ≡ false → SumFails sum ls
  unfolding is_true_sum wires_sum sum_over
  sum_fails sum [] f = absurd (true≢false f)
  sum_fails sum (None ∷ ls) f = absurd (true≢false f)
  sum_fails sum (Some opens ∷ ls) f = absurd (true≢false f)
  sum_fails sum (Some (track t v) ∷ ls) f = ends_sum sum (track t v) ls next_track f
  sum_fails sum (Some (loose k) ∷ ls) f = ends_sum sum (loose k) ls first_loose f
  sum_fails sum (Some closes ∷ ls) f = ends_sum sum closes ls last_line f
  sum_fails sum (Some (wire w) ∷ ls) f =
      let r = sum_fails (sum + weight_of job w.number) ls f in
      record {
        wires = w ∷ r.wires;
        next = r.next;
        rest = r.rest;
        lines_below = ap (λ (l : List (Option Line)). Some (wire w) ∷ l) r.lines_below;
        ends_wires = r.ends_wires;
        ends = r.ends;
        differs = λ (e : sum + (weight_of job w.number + sum_over (weight_of job) (wire_numbers r.wires)) ≡ s). r.differs (omega arith);
      }

  ended_fails : (sum : ℕ) (x : Line) (ls : List (Option Line)) → EndsWires x → ends_track job u x ≡ true → (sum ≡ s → ⊥) → is_true_sum job u s sum (Some x ∷ ls) ≡ false
  unfolding is_true_sum
  ended_fails sum (track t v) ls next_track c d = rw (c, ne_eqb sum s d)
  ended_fails sum (loose k) ls first_loose c d = rw (c, ne_eqb sum s d)
  ended_fails sum closes ls last_line c d = rw (c, ne_eqb sum s d)
  ended_fails sum opens ls e c d = elim e [ ]
  ended_fails sum (wire w) ls e c d = elim e [ ]

  differing_fails : (sum : ℕ) (ws : List Wire) (x : Line) (ls : List (Option Line)) → EndsWires x → ends_track job u x ≡ true → (sum + wires_sum job ws ≡ s → ⊥) →
      is_true_sum job u s sum (map (λ v. Some (wire v)) ws ++ Some x ∷ ls) ≡ false
  unfolding is_true_sum wires_sum sum_over
  differing_fails sum [] x ls n c d = ended_fails sum x ls n c (λ (e : sum ≡ s). d (omega arith))
  differing_fails sum (w ∷ ws) x ls n c d =
      differing_fails (sum + weight_of job w.number) ws x ls n c (λ (e : sum + weight_of job w.number + sum_over (weight_of job) (wire_numbers ws) ≡ s). d (omega arith))

  pub false_sum_fails : (earlier : List ℕ) (ls : List (Option Line)) → FalseSum job earlier u s ls → is_true_sum job u s 0 ls ≡ false
  false_sum_fails earlier ls r =
      rw r.lines_below (differing_fails 0 r.wires r.next r.rest r.ends_wires
      (rw (ends_of r.next r.ends_wires earlier r.wires) (in_place_of job r.can_stand))
      (λ (e : 0 + wires_sum job r.wires ≡ s). r.differs (omega arith)))
