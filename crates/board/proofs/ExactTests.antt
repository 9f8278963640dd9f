-- Each test of specs/Tests.antt passes exactly if its statement holds. Assumes nothing.
use Prim.Native.Nat.{ℕ, zero, suc, ◌+◌, ◌-◌, ◌≤◌, ◌<◌}
use mathlib.Core.Path.{◌≡◌, refl, sym, ap, ◌∙◌}
use mathlib.Core.Logic.{◌↔◌, ⊎_elim}
use mathlib.Core.Bool.{Bool, true, false, not, ◌||◌, or-true, true≢false, false≢true}
use mathlib.Core.List.Memᴰ
use mathlib.Core.List.{List, [], ◌∷◌, Memᴰ}
use native.Mathlib.Omega.{arith}
use lib.Dec.{leb, eqb}
use borrow.Author.Tests.{leb-true, le-leb, eqb-true, eqb-false, eq-eqb, ne_eqb, not-true}
use Rattle.lists.specs.Lists.{any_of}
use Rattle.lists.proofs.Cases.{by_test, and_split, and_both}
use Rattle.lists.proofs.Laws.{all_of_at, all_of_of, any_of_mem, mem_any_of}
use Rattle.board.specs.declared.Board.{Board}
use Rattle.board.specs.declared.Net.{Net}
use Rattle.board.specs.declared.Block.{Block}
use Rattle.board.specs.Length.{upper, lower, length_of}
use Rattle.board.specs.Job.{Job, closes_row, blocked}
use Rattle.board.specs.Placement.{Placement, Clear, bottom}
use Rattle.board.specs.Precedence.{Precedes, Eligible}
use Rattle.board.specs.Tests.{same_net, is_of_job, is_long, is_short, is_from_one, is_over_upper, is_under_lower, is_to_last, clear_rows, is_clear, is_on, is_before, is_ready, is_eligible}

-- ---- the net is one of the job

same_net_true : (m n : Net) → same_net m n ≡ true → m ≡ n
unfolding same_net
same_net_true m n h =
    let w = and_split _ _ h in
    let a = and_split _ _ w.0 in
    let b = and_split _ _ a.0 in
    let c = and_split _ _ b.0 in
    let d = and_split _ _ c.0 in
    let e1 = eqb-true m.number n.number d.0 in
    let e2 = eqb-true m.left.0 n.left.0 d.1 in
    let e3 = eqb-true m.right.0 n.right.0 c.1 in
    let e4 = eqb-true m.min n.min b.1 in
    let e5 = eqb-true m.max n.max a.1 in
    let e6 = eqb-true m.weight n.weight w.1 in
    λ i. record { number = e1 i; left = record { 0 = e2 i }; right = record { 0 = e3 i }; min = e4 i; max = e5 i; weight = e6 i }

same_net_refl : (n : Net) → same_net n n ≡ true
unfolding same_net
same_net_refl n =
    and_both _ _ (and_both _ _ (and_both _ _ (and_both _ _ (and_both _ _
    (eq-eqb n.number n.number refl) (eq-eqb n.left.0 n.left.0 refl)) (eq-eqb n.right.0 n.right.0 refl))
    (eq-eqb n.min n.min refl)) (eq-eqb n.max n.max refl)) (eq-eqb n.weight n.weight refl)

listed : (n : Net) (ns : List Net) → any_of (same_net n) ns ≡ true → Memᴰ n ns
unfolding any_of
listed n [] h = absurd (false≢true h)
listed n (m ∷ ns) h =
    by_test (same_net n m) (λ e. Memᴰ.head (same_net_true n m e)) (λ e. Memᴰ.tail (listed n ns (rw e at h)))

lists : (n : Net) (ns : List Net) → Memᴰ n ns → any_of (same_net n) ns ≡ true
unfolding any_of
lists n [] i = absurd (Memᴰ.not-nil i)
lists n (m ∷ ns) i =
    ⊎_elim (λ (q : n ≡ m). rw (← q) (rw (same_net_refl n))) (λ i'. rw (lists n ns i') (or-true (same_net n m))) (Memᴰ.cases_cons i)

pub of_job_exact : (job : Job) (p : Placement) → is_of_job job p ≡ true ↔ Memᴰ p.net job.nets
unfolding is_of_job
of_job_exact job p = (listed p.net job.nets, lists p.net job.nets)

-- ---- its length is allowed, and it covers its fixed rows within 1 to H

leb_exact : (a b : ℕ) → leb a b ≡ true ↔ a ≤ b
leb_exact a b = (leb-true a b, le-leb a b)

pub long_exact : (board : Board) (p : Placement) → is_long board p ≡ true ↔ p.net.min ≤ length_of board p.net p.shape
unfolding is_long
long_exact board p = leb_exact _ _

pub short_exact : (board : Board) (p : Placement) → is_short board p ≡ true ↔ length_of board p.net p.shape ≤ p.net.max
unfolding is_short
short_exact board p = leb_exact _ _

pub from_one_exact : (p : Placement) → is_from_one p ≡ true ↔ 1 ≤ p.top
unfolding is_from_one
from_one_exact p = leb_exact _ _

pub over_upper_exact : (p : Placement) → is_over_upper p ≡ true ↔ p.top ≤ upper p.net
unfolding is_over_upper
over_upper_exact p = leb_exact _ _

pub under_lower_exact : (p : Placement) → is_under_lower p ≡ true ↔ lower p.net ≤ bottom p
unfolding is_under_lower
under_lower_exact p = leb_exact _ _

pub to_last_exact : (board : Board) (p : Placement) → is_to_last board p ≡ true ↔ bottom p ≤ board.rows
unfolding is_to_last
to_last_exact board p = leb_exact _ _

-- ---- it is clear of blocks

pub closes_exact : (b : Block) (t row : ℕ) → closes_row b t row ≡ true ↔ ((b.track.0 ≡ t) × (b.first.0 ≤ row) × (row ≤ b.last.0))
unfolding closes_row
closes_exact b t row = (
  λ h. let s = and_split _ _ h in
      let u = and_split _ _ s.0 in
      (eqb-true b.track.0 t u.0, leb-true b.first.0 row u.1, leb-true row b.last.0 s.1),
  λ h. and_both _ _ (and_both _ _ (eq-eqb b.track.0 t h.0) (le-leb b.first.0 row h.1)) (le-leb row b.last.0 h.2),
)

none_of : {A : Type 0} (f : A → Bool) (xs : List A) → any_of f xs ≡ false → (x : A) → Memᴰ x xs → f x ≡ false
unfolding any_of
none_of f [] h x m = absurd (Memᴰ.not-nil m)
none_of f (y ∷ ys) h x m =
    by_test (f y)
    (λ e. absurd (true≢false (rw e at h)))
    (λ e. ⊎_elim (λ (q : x ≡ y). rw q e) (λ m'. none_of f ys (rw e at h) x m') (Memᴰ.cases_cons m))

of_none : {A : Type 0} (f : A → Bool) (xs : List A) → ((x : A) → Memᴰ x xs → f x ≡ false) → any_of f xs ≡ false
unfolding any_of
of_none f [] h = refl
of_none f (y ∷ ys) h = rw (h y (Memᴰ.head refl)) (of_none f ys (λ x m. h x (Memᴰ.tail m)))

-- a row is blocked unless no block of the job closes it
pub blocked_exact : (job : Job) (t row : ℕ) → blocked job t row ≡ false ↔ ((b : Block) → Memᴰ b job.blocks → closes_row b t row ≡ false)
unfolding blocked
blocked_exact job t row = (none_of (λ b. closes_row b t row) job.blocks, of_none (λ b. closes_row b t row) job.blocks)

pub clear_rows_lem : (job : Job) (t row count : ℕ) → clear_rows job t row count ≡ true → (r : ℕ) → row ≤ r → r < row + count → blocked job t r ≡ false
unfolding clear_rows
clear_rows_lem job t row zero h r a b = absurd (omega arith)
clear_rows_lem job t row (suc count) h r a b =
    let s = and_split (not (blocked job t row)) (clear_rows job t (suc row) count) h in
    by_test (eqb r row)
    (λ e. rw (eqb-true r row e) (not-true _ s.0))
    (λ e. clear_rows_lem job t (suc row) count s.1 r (omega (arith, eqb-false r row e)) (omega arith))

pub rows_clear : (job : Job) (t row count : ℕ) → ((r : ℕ) → row ≤ r → r < row + count → blocked job t r ≡ false) → clear_rows job t row count ≡ true
unfolding clear_rows
rows_clear job t row zero h = refl
rows_clear job t row (suc count) h =
    and_both (not (blocked job t row)) (clear_rows job t (suc row) count)
    (ap not (h row (omega arith) (omega arith)))
    (rows_clear job t (suc row) count (λ r a b. h r (omega arith) (omega arith)))

pub clear_exact : (job : Job) (t : ℕ) (p : Placement) → is_clear job t p ≡ true ↔ Clear job t p
unfolding is_clear
clear_exact job t p = (
  λ h row a b. clear_rows_lem job t p.top (bottom p + 1 - p.top) h row (omega arith) (omega arith),
  λ h. rows_clear job t p.top (bottom p + 1 - p.top) (λ r a b. h r (omega arith) (omega arith)),
)

-- ---- its net is eligible

pub on_listed : (earlier : List ℕ) (n : Net) → Memᴰ n.number earlier → is_on earlier n ≡ true
unfolding is_on
on_listed earlier n i = mem_any_of n.number earlier i

pub listed_on : (earlier : List ℕ) (n : Net) → is_on earlier n ≡ true → Memᴰ n.number earlier
unfolding is_on
listed_on earlier n h = any_of_mem n.number earlier h

pub not_on : (earlier : List ℕ) (n : Net) → (Memᴰ n.number earlier → ⊥) → is_on earlier n ≡ false
not_on earlier n f = by_test (is_on earlier n) (λ e. absurd (f (listed_on earlier n e))) (λ e. e)

pub fresh_exact : (earlier : List ℕ) (n : Net) → not (is_on earlier n) ≡ true ↔ (Memᴰ n.number earlier → ⊥)
fresh_exact earlier n = (
  λ h m. true≢false (sym (on_listed earlier n m) ∙ not-true _ h),
  λ h. ap not (not_on earlier n h),
)

pub precedes_exact : (m n : Net) → is_before m n ≡ true ↔ Precedes m n
unfolding is_before
precedes_exact m n = (
  λ h. let s = and_split _ _ h in
      record { another = eqb-false m.number n.number (not-true _ s.0); meets = omega (arith, eqb-true m.left.0 n.right.0 s.1) },
  λ p. and_both _ _ (ap not (ne_eqb m.number n.number p.another)) (eq-eqb m.left.0 n.right.0 (omega (arith, p.meets))),
)

pub ready_exact : (job : Job) (earlier : List ℕ) (n : Net) → is_ready job earlier n ≡ true ↔ ((m : Net) → Memᴰ m job.nets → Precedes m n → Memᴰ m.number earlier)
unfolding is_ready
ready_exact job earlier n = (
  λ h m i q.
      let a = all_of_at _ job.nets m h i in
      listed_on earlier m (rw ((precedes_exact m n).1 q) at a),
  λ h. all_of_of (λ m. not (is_before m n) || is_on earlier m) job.nets (λ m i.
      by_test (is_before m n)
      (λ e. rw (on_listed earlier m (h m i ((precedes_exact m n).0 e))) (or-true (not (is_before m n))))
      (λ e. rw e refl)),
)

pub eligible_exact : (job : Job) (earlier : List ℕ) (n : Net) → is_eligible job earlier n ≡ true ↔ Eligible job earlier n
unfolding is_eligible
eligible_exact job earlier n = (
  λ h. let s = and_split (not (is_on earlier n)) (is_ready job earlier n) h in
      record { fresh = λ m. absurd ((fresh_exact earlier n).0 s.0 m); ready = (ready_exact job earlier n).0 s.1 },
  λ e. and_both (not (is_on earlier n)) (is_ready job earlier n) ((fresh_exact earlier n).1 e.fresh) ((ready_exact job earlier n).1 e.ready),
)
