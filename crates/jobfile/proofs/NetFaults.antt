-- A net is refused for that of its faults which has the smallest number, and added where it has none. Assumes nothing.
use Rattle.std.specs.Prelude.{Option}
use Prim.Native.Nat.{ℕ, ◌≤◌, ◌<◌}
use mathlib.Core.Path.{◌≡◌, refl, ap, ◌∙◌}
use mathlib.Core.Bool.{Bool, true, false}
use mathlib.Core.List.{List, [], ◌∷◌, Memᴰ}
use native.Mathlib.Omega.{arith}
use lib.Dec.{eqb}
use lib.ListN.{length}
use borrow.Author.Tests.{leb-true, leb-false, ltb-true, ltb-false, eqb-true, eqb-false, not-false}
use Rattle.lists.specs.Lists.{all_of}
use Rattle.lists.proofs.Cases.{by_test}
use Rattle.lists.proofs.Laws.{all_of_at}
use Rattle.board.specs.declared.Net.{Net}
use Rattle.board.specs.declared.Shape.{Shape}
use Rattle.board.specs.Job.{Job}
use Rattle.board.specs.Length.{Allowed, needed}
use Rattle.board.specs.Accepted.{NetInRange}
use Rattle.jobfile.specs.declared.Refusal.{Refusal}
use Rattle.jobfile.specs.declared.Refusal.TheVariants.{TooLong, NotOfForm, OutOfRange, TooMany, NumberNotAbove, PinUsed, SameRow, NoLength, TooFewRows}
use Rattle.jobfile.specs.Read.{State, filled, with_net, weight_in_range, net_in_range, last_number, pins_free, test_net, is_above, add_net}
use Rattle.jobfile.specs.Answers.{number_of, line_of}
use Rattle.jobfile.specs.Faults.{NetFault, net_range, weight_range, net_count, misnumbered, NotAbove, left_used, right_used, same_row, no_length, too_few_rows}
use Rattle.lists.proofs.Joins.{all_of_false}
use Rattle.jobfile.proofs.Tests.{denied, differ_is, weight_range_is, net_range_is, last_number_lem, last_net, free_is, length_is}
use Rattle.jobfile.proofs.NetTests.{net_tests, net_tested, net_rising}
use Rattle.jobfile.proofs.TestOrder.{Judged, Standing, outcomes, tested_judged}

pub net_at : {Misnumbered : Type 0} {job : Job} {n : Net} {w : Option ℕ} {k : ℕ} {o : Refusal} → NetFault Misnumbered job n w k o →
    (line_of o ≡ k) × (3 ≤ number_of o)
net_at (net_range x) = (refl, omega arith)
net_at (weight_range x) = (refl, omega arith)
net_at (net_count x) = (refl, omega arith)
net_at (misnumbered x) = (refl, omega arith)
net_at (left_used m i e) = (refl, omega arith)
net_at (right_used m i e) = (refl, omega arith)
net_at (same_row x) = (refl, omega arith)
net_at (no_length x) = (refl, omega arith)
net_at (too_few_rows x) = (refl, omega arith)

-- of a net whose number is tested in some way: where it is in range, the test fails exactly if the number is what number 5 turns away
module _ {Misnumbered : Type 0} (job : Job) (n : Net) (w : Option ℕ) (k : ℕ) (numbered : Bool)
    (refused_5 : NetInRange job.board n → numbered ≡ false → Misnumbered) (passed_5 : numbered ≡ true → Misnumbered → ⊥) where
  -- its faults
  abbrev Faulty : Refusal → Type 0
  Faulty = NetFault Misnumbered job n w k

  -- what a fault of it says, by the refusal
  abbrev Says : Refusal → Type 0
  Says TooLong = Unit {0}
  Says (NotOfForm m) = Unit {0}
  Says (OutOfRange m) = net_in_range job.board n w ≡ true → ⊥
  Says (TooMany m) = 512 ≤ length job.nets
  Says (NumberNotAbove m) = Misnumbered
  Says (PinUsed m) = all_of (pins_free n) job.nets ≡ true → ⊥
  Says (SameRow m) = n.left.0 ≡ n.right.0
  Says (NoLength m) = (s : Shape) → Allowed job.board n s → ⊥
  Says (TooFewRows m) = job.board.rows < needed job.board n

  says : {o : Refusal} → Faulty o → Says o
  says (net_range x) = λ e. x ((net_range_is job.board n w).0 e).0
  says (weight_range x) = λ e. x ((net_range_is job.board n w).0 e).1
  says (net_count x) = x
  says (misnumbered x) = x
  says (left_used m i q) = λ e. ((free_is n m).0 (all_of_at (pins_free n) job.nets m e i)).0 q
  says (right_used m i q) = λ e. ((free_is n m).0 (all_of_at (pins_free n) job.nets m e i)).1 q
  says (same_row x) = x
  says (no_length x) = x
  says (too_few_rows x) = x

  some_range : net_in_range job.board n w ≡ false → Faulty (OutOfRange k)
  some_range e =
      by_test (weight_in_range w)
      (λ q. net_range (λ r. denied _ (net_range_is job.board n w) e (r, (weight_range_is w).0 q)))
      (λ q. weight_range (denied _ (weight_range_is w) q))

  some_used : all_of (pins_free n) job.nets ≡ false → Faulty (PinUsed k)
  some_used e =
      let r = all_of_false (pins_free n) job.nets e in
      let m = r.0 in
      by_test (eqb m.left.0 n.left.0)
      (λ q. left_used m r.1 (eqb-true _ _ q))
      (λ q.
      by_test (eqb m.right.0 n.right.0)
      (λ p. right_used m r.1 (eqb-true _ _ p))
      (λ p. absurd (denied (pins_free n m) (free_is n m) r.2 (eqb-false _ _ q, eqb-false _ _ p))))

  net_stands : Standing Faulty (net_tests job n w k numbered)
  net_stands = (
    record { fails = some_range; passes = λ e f. says f e },
    λ e3. (
      record { fails = λ e. net_count (omega (arith, ltb-false)); passes = λ e f. omega (arith, ltb-true, says f) },
      λ e4. (
        record {
          fails = λ e. misnumbered (refused_5 ((net_range_is job.board n w).0 e3).0 e);
          passes = λ e f. passed_5 e (says f);
        },
        λ e5. (
          record { fails = some_used; passes = λ e f. says f e },
          λ e6. (
            record {
              fails = λ e. same_row (eqb-true _ _ (not-false _ e));
              passes = λ e f. (differ_is n.left.0 n.right.0).0 e (says f);
            },
            λ e7. (
              record {
                fails = λ e. no_length (λ s a. denied _ (length_is job.board n) e (s, a));
                passes = λ e f. let s = (length_is job.board n).0 e in says f s.0 s.1;
              },
              λ e8. (
                record {
                  fails = λ e. too_few_rows (omega (arith, leb-false, ltb-false));
                  passes = λ e f. omega (arith, leb-true, ltb-true, says f);
                },
                λ e9. tt,
              ),
            ),
          ),
        ),
      ),
    ),
  )

  net_covered : (o : Refusal) → Faulty o → Memᴰ o (outcomes (net_tests job n w k numbered))
  net_covered o (net_range x) = Memᴰ.head refl
  net_covered o (weight_range x) = Memᴰ.head refl
  net_covered o (net_count x) = search (Memᴰ.head, Memᴰ.tail) depth 9
  net_covered o (misnumbered x) = search (Memᴰ.head, Memᴰ.tail) depth 9
  net_covered o (left_used m i e) = search (Memᴰ.head, Memᴰ.tail) depth 9
  net_covered o (right_used m i e) = search (Memᴰ.head, Memᴰ.tail) depth 9
  net_covered o (same_row x) = search (Memᴰ.head, Memᴰ.tail) depth 9
  net_covered o (no_length x) = search (Memᴰ.head, Memᴰ.tail) depth 9
  net_covered o (too_few_rows x) = search (Memᴰ.head, Memᴰ.tail) depth 9

  pub test_judged : (G : State → Type 0) (s : State) → G s → Judged Faulty G (test_net k numbered n w job s)
  test_judged G s g = rw (net_tested job n w k numbered s)
      (tested_judged Faulty G s g (net_tests job n w k numbered) (net_rising job n w k numbered) net_stands net_covered)

-- the number of a net on a line
some_above : (n : Net) (ns : List Net) → 1 ≤ n.number → is_above n ns ≡ false → NotAbove ns n
unfolding is_above last_number
some_above n [] a e = absurd (omega (arith, ltb-false 0 n.number e))
some_above n (m ∷ ns) a e =
    let l = last_net 0 m ns in
    record { before = l.before; last = l.last; nets_are = l.is_last; not_above = omega (arith, l.has_number, ltb-false (last_number 0 (m ∷ ns)) n.number e) }

no_above : (n : Net) (ns : List Net) → is_above n ns ≡ true → NotAbove ns n → ⊥
unfolding is_above
no_above n ns e x =
    let l : last_number 0 ns ≡ x.last.number = ap (last_number 0) x.nets_are ∙ last_number_lem 0 x.before x.last in
    omega (arith, ltb-true (last_number 0 ns) n.number e, x.not_above)

pub net_judged : (job : Job) (n : Net) (w : Option ℕ) (k : ℕ) (G : State → Type 0) → G (filled (with_net job n)) →
    Judged (NetFault (NotAbove job.nets n) job n w k) G (add_net k n w job)
unfolding add_net
net_judged job n w k G g =
    test_judged job n w k (is_above n job.nets) (λ r e. some_above n job.nets r.number_range.0 e) (no_above n job.nets) G (filled (with_net job n)) g
