-- The laws of the tests of a line, one after another: the first that fails gives the refusal, and what a line leads to where all of
-- them pass. Assumes nothing.
use Rattle.std.specs.Prelude.{Option, Ok, Err}
use Prim.Native.Nat.{ℕ, ◌≤◌, ◌<◌}
use mathlib.Core.Path.{◌≡◌, refl, sym, ap, ◌∙◌}
use mathlib.Core.Bool.{Bool, true, false, not, true≢false}
use native.Mathlib.Omega.{arith}
use lib.Dec.{eqb, leb, ltb}
use lib.ListN.{length}
use borrow.Author.Tests.{ltb-true, lt-ltb, le-ltb, le-leb, lt-leb, eq-eqb}
use Rattle.lists.specs.Lists.{all_of}
use Rattle.board.specs.declared.Board.{Board}
use Rattle.board.specs.declared.Net.{Net}
use Rattle.board.specs.declared.Block.{Block}
use Rattle.board.specs.declared.Shape.{Shape}
use Rattle.board.specs.declared.Shape.TheVariants.{Plain, Stretched}
use Rattle.board.specs.Job.{Job}
use Rattle.board.specs.Length.{upper, lower, span, plain_length, length_of, shortest, needed}
use Rattle.jobfile.specs.declared.Refusal.{Refusal}
use Rattle.jobfile.specs.declared.Refusal.TheVariants.{OutOfRange, TooMany, NumberNotAbove, PinUsed, SameRow, NoLength, TooFewRows}
use Rattle.jobfile.specs.Read.{State, filled, Next, go, unless, net_in_range, with_weight, block_in_range, pins_free, with_net, with_block, test_net, add_net, add_block}
use Rattle.jobrules.specs.Rules.{outcome_of, NetsAbove}
use Rattle.jobrules.specs.declared.UsedPins.{UsedPins}

-- a test of a value that was computed
pub test_yes : {x y : ℕ} (m : ℕ) → x ≡ y → x ≤ m → leb y m ≡ true
test_yes {x} {y} m e h = le-leb y m (omega arith)

pub test_no : {x y : ℕ} (m : ℕ) → x ≡ y → m < x → leb y m ≡ false
test_no {x} {y} m e h = lt-leb y m (omega arith)

-- ---- the outcome of a net: the first of the tests 3 to 7 that fails

module _ (k : ℕ) (numbered : Bool) (n : Net) (w : Option ℕ) (size : Board) (count : ℕ) (used : UsedPins) (job : Job) (s : State) (h : NetsAbove job size count used) where
  pub fails_3 : net_in_range size n w ≡ false → Err (OutOfRange k) ≡ outcome_of (test_net k numbered n w job s)
  unfolding outcome_of test_net unless
  fails_3 e = rw (h.size_is, e)

  few_is : count < 512 → ltb (length job.nets) 512 ≡ true
  few_is l = lt-ltb (length job.nets) 512 (omega (arith, h.count_is))

  module _ (ranges : net_in_range size n w ≡ true) where
    pub fails_4 : 512 ≤ count → Err (TooMany k) ≡ outcome_of (test_net k numbered n w job s)
    unfolding outcome_of test_net unless
    fails_4 l = rw (h.size_is, ranges, le-ltb (length job.nets) 512 (omega (arith, h.count_is)))

    module _ (few : count < 512) where
      pub fails_5 : numbered ≡ false → Err (NumberNotAbove k) ≡ outcome_of (test_net k numbered n w job s)
      unfolding outcome_of test_net unless
      fails_5 e = rw (h.size_is, ranges, few_is few, e)

      module _ (passed : numbered ≡ true) where
        pub fails_6 : all_of (pins_free n) job.nets ≡ false → Err (PinUsed k) ≡ outcome_of (test_net k numbered n w job s)
        unfolding outcome_of test_net unless
        fails_6 e = rw (h.size_is, ranges, few_is few, passed, e)

        module _ (free : all_of (pins_free n) job.nets ≡ true) where
          pub fails_7 : n.left.0 ≡ n.right.0 → Err (SameRow k) ≡ outcome_of (test_net k numbered n w job s)
          unfolding outcome_of test_net unless
          fails_7 e = rw (h.size_is, ranges, few_is few, passed, free, eq-eqb n.left.0 n.right.0 e)

          -- ---- and of one that passes them
          module _ (differ : not (eqb n.left.0 n.right.0) ≡ true) where
            pub fails_8 : leb (length_of size n (shortest size n)) n.max ≡ false → Err (NoLength k) ≡ outcome_of (test_net k numbered n w job s)
            unfolding outcome_of test_net unless
            fails_8 e = rw (h.size_is, ranges, few_is few, passed, free, differ, e)

            module _ (e : leb (length_of size n (shortest size n)) n.max ≡ true) where
              pub fails_9 : leb (needed size n) size.rows ≡ false → Err (TooFewRows k) ≡ outcome_of (test_net k numbered n w job s)
              unfolding outcome_of test_net unless
              fails_9 f = rw (h.size_is, ranges, few_is few, passed, free, differ, e, f)

              pub passes_9 : leb (needed size n) size.rows ≡ true → Ok tt ≡ outcome_of (test_net k numbered n w job s)
              unfolding outcome_of test_net unless
              passes_9 f = rw (h.size_is, ranges, few_is few, passed, free, differ, e, f)

-- ---- no test looks at the weight of the net itself

unless_same : (b c : Bool) (o : Refusal) (x y : Next) → b ≡ c → outcome_of x ≡ outcome_of y → outcome_of (unless b o x) ≡ outcome_of (unless c o y)
unfolding unless outcome_of
unless_same true true o x y q e = e
unless_same true false o x y q e = absurd (true≢false q)
unless_same false true o x y q e = absurd (true≢false (sym q))
unless_same false false o x y q e = refl

module _ (size board : Board) (n : Net) (w : Option ℕ) where
  length_same : (s : Shape) → length_of size n s ≡ length_of size (with_weight board n w) s
  unfolding plain_length span upper lower
  length_same Plain = refl
  length_same (Stretched e) = refl

  shortest_same : shortest size n ≡ shortest size (with_weight board n w)
  unfolding shortest plain_length span upper lower
  shortest_same = refl

  needed_same : needed size n ≡ needed size (with_weight board n w)
  unfolding needed shortest plain_length span upper lower
  needed_same = refl

pub weight_same : (k : ℕ) (numbered : Bool) (board : Board) (n : Net) (w : Option ℕ) (job : Job) (s t : State) →
    outcome_of (test_net k numbered n w job s) ≡ outcome_of (test_net k numbered (with_weight board n w) w job t)
unfolding test_net net_in_range pins_free outcome_of
weight_same k numbered board n w job s t =
    let m = with_weight board n w in
    let size = job.board in
    let e : length_of size n (shortest size n) ≡ length_of size m (shortest size m) = length_same size board n w (shortest size n) ∙ ap (length_of size m) (shortest_same size board n w) in
    unless_same _ _ _ _ _ refl
    (unless_same _ _ _ _ _ refl
    (unless_same _ _ _ _ _ refl
    (unless_same _ _ _ _ _ refl
    (unless_same _ _ _ _ _ refl
    (unless_same _ _ _ _ _ (ap (λ l. leb l n.max) e)
    (unless_same _ _ _ (go s) (go t) (ap (λ l. leb l size.rows) (needed_same size board n w)) goes))))))
  where
    goes : outcome_of (go s) ≡ outcome_of (go t)
    goes = refl

-- ---- the outcome of a block

module _ (k : ℕ) (b : Block) (size : Board) (count : ℕ) (job : Job) (q : job.board ≡ size) (c : length job.blocks ≡ count) where
  pub block_fails_3 : block_in_range size b ≡ false → Err (OutOfRange k) ≡ outcome_of (add_block k b job)
  unfolding outcome_of add_block unless
  block_fails_3 e = rw (q, e)

  module _ (ranges : block_in_range size b ≡ true) where
    pub block_fails_4 : 256 ≤ count → Err (TooMany k) ≡ outcome_of (add_block k b job)
    unfolding outcome_of add_block unless
    block_fails_4 l = rw (q, ranges, le-ltb (length job.blocks) 256 (omega arith))

    pub block_passes_4 : count < 256 → Ok tt ≡ outcome_of (add_block k b job)
    unfolding outcome_of add_block unless
    block_passes_4 l = rw (q, ranges, lt-ltb (length job.blocks) 256 (omega arith))

-- ---- where all tests pass

-- nothing is refused
abbrev pub Passes : Next → Type 0
Passes x = outcome_of x ≡ Ok tt

-- a test that has to pass, before others
passed_first : {P : Type 0} (b : Bool) (o : Refusal) (x : Next) → (b ≡ true → Passes x → P) → Passes (unless b o x) → P
unfolding unless outcome_of
passed_first true o x f e = f refl e
passed_first false o x f e = cc

-- x leads to y, if to anything
abbrev pub Leads : Next → Next → Type 0
Leads y x = Passes x → x ≡ y

pub unless_leads : (b : Bool) (o : Refusal) (x y : Next) → Leads y x → Leads y (unless b o x)
unfolding unless outcome_of
unless_leads true o x y f e = f e
unless_leads false o x y f e = cc

module _ (k : ℕ) (n : Net) (w : Option ℕ) (job : Job) where
  pub net_few : Passes (add_net k n w job) → length job.nets < 512
  unfolding add_net test_net
  net_few =
      passed_first _ _ _ (λ e3.
      passed_first _ _ _ (λ e4 p. ltb-true _ _ e4))

  pub net_ranged : Passes (add_net k n w job) → net_in_range job.board n w ≡ true
  unfolding add_net test_net
  net_ranged = passed_first _ _ _ (λ e3 p. e3)

  pub net_goes : Passes (add_net k n w job) → add_net k n w job ≡ go (filled (with_net job n))
  unfolding add_net test_net
  net_goes =
      unless_leads _ _ _ _
      (unless_leads _ _ _ _
      (unless_leads _ _ _ _
      (unless_leads _ _ _ _
      (unless_leads _ _ _ _
      (unless_leads _ _ _ _
      (unless_leads _ _ _ _ (λ e. refl)))))))

module _ (k : ℕ) (b : Block) (job : Job) where
  pub block_few : Passes (add_block k b job) → length job.blocks < 256
  unfolding add_block
  block_few =
      passed_first _ _ _ (λ e3.
      passed_first _ _ _ (λ e4 p. ltb-true _ _ e4))

  pub block_goes : Passes (add_block k b job) → add_block k b job ≡ go (filled (with_block job b))
  unfolding add_block
  block_goes = unless_leads _ _ _ _ (unless_leads _ _ _ _ (λ e. refl))
