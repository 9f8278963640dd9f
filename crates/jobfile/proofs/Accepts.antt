-- Every job that read gives is accepted. Assumes nothing.
use Rattle.std.specs.Prelude.{Option, None, Some}
use Prim.Native.Nat.{ℕ, ◌≤◌, ◌<◌}
use mathlib.Core.Path.{◌≡◌, refl}
use mathlib.Core.Logic.{◌⊎◌, inl, inr, ⊎_elim}
use mathlib.Core.Bool.{Bool, true, false, not}
use mathlib.Core.List.Memᴰ
use mathlib.Core.List.{List, [], ◌∷◌}
use native.Mathlib.Omega.{arith}
use lib.Dec.{eqb, leb, ltb}
use lib.ListN.{length, length-append}
use borrow.Author.Tests.{leb-true, ltb-true}
use Rattle.lists.specs.Lists.{Each, EachPair, all_of}
use Rattle.lists.proofs.Laws.{Each-map}
use Rattle.lists.proofs.Tested.{Each-of}
use Rattle.board.specs.declared.Board.{Board}
use Rattle.board.specs.declared.Net.{Net}
use Rattle.board.specs.declared.Block.{Block}
use Rattle.board.specs.Job.{Job}
use Rattle.board.specs.Length.{upper, lower, span, plain_length, length_of, shortest, needed}
use Rattle.board.specs.Accepted.{AcceptedJob, AcceptedNet}
use Rattle.text.specs.Bytes.{lines}
use Rattle.jobfile.specs.declared.Form.{Form}
use Rattle.jobfile.specs.declared.Form.TheVariants as Is
use Rattle.jobfile.specs.declared.Refusal.{Refusal}
use Rattle.jobfile.specs.declared.Refusal.TheVariants.{TooLong, NotOfForm}
use Rattle.jobfile.specs.Forms.{read_form}
use Rattle.jobfile.specs.Read.{State, start, opened, sized, filled, closed, Next, go, stop, unless, at_start, at_opened, at_sized, at_filled, weight_given, net_given, block_of, board_of, empty_job, with_net, with_block, net_in_range, block_in_range, last_number, pins_free, test_net, is_above, add_net, add_block, step, Read, accepted, refused, ended, follow, read_from, read_job}
use Rattle.jobfile.specs.Faults.{WeightInRange}
use Rattle.lists.proofs.Joins.{Each-each, EachPair-join}
use Rattle.jobfile.proofs.Tests.{read_cases, within_is, differ_is, net_range_is, block_range_is, free_is, length_is}

-- what has been read is accepted
abbrev AcceptedState : State → Type 0
AcceptedState start = Unit {0}
AcceptedState opened = Unit {0}
AcceptedState (sized h) = (1 ≤ h) × (h ≤ 1024)
AcceptedState (filled job) = AcceptedJob job
AcceptedState (closed job) = AcceptedJob job

-- every state that a line leads to is good
abbrev Gives : Next → Type 0
Gives x = (s : State) → x ≡ go s → AcceptedState s

stop_gives : (o : Refusal) → Gives (stop o)
stop_gives o s e = absurd (let z : ◌≡◌ {A = ℕ} 0 1 = cc in omega arith)

go_gives : (s : State) → AcceptedState s → Gives (go s)
go_gives s g t e = let q : s ≡ t = cc in rw q at g

unless_gives : (b : Bool) (o : Refusal) (x : Next) → (b ≡ true → Gives x) → Gives (unless b o x)
unfolding unless
unless_gives true o x f = f refl
unless_gives false o x f = stop_gives o

-- ---- a net or a block more

-- the last number of rising ones is the largest
last_most : (k : ℕ) (ns : List Net) → EachPair (λ a b. a.number < b.number) ns → Each (λ n. k ≤ n.number) ns →
    (k ≤ last_number k ns) × Each (λ n. n.number ≤ last_number k ns) ns
unfolding last_number
last_most k [] r a = (omega arith, tt)
last_most k (n ∷ ns) r a =
    let h = last_most n.number ns r.1 (Each-map ns (λ m l. omega (arith, l)) r.0) in
    (omega (arith, h.0, a.0), (h.0, h.1))

-- the weight of an accepted net
abbrev pub Weighs : Board → Net → Type 0
Weighs board n = (n.weight ≡ needed board n) ⊎ ((1 ≤ n.weight) × (n.weight ≤ 999))

-- that of a line, where it is in range
pub given_weighs : (board : Board) (i l r lo hi : ℕ) (w : Option ℕ) → WeightInRange w → Weighs board (net_given board i l r lo hi w)
unfolding weight_given needed shortest plain_length span upper lower
given_weighs board i l r lo hi None h = inl refl
given_weighs board i l r lo hi (Some w) h = inr h

-- a net that passes 3, 7, 8 and 9 is accepted, whatever number 5 asks of it
pub net_passed : (board : Board) (n : Net) (w : Option ℕ) → (WeightInRange w → Weighs board n) → net_in_range board n w ≡ true →
    not (eqb n.left.0 n.right.0) ≡ true → leb (length_of board n (shortest board n)) n.max ≡ true →
    leb (needed board n) board.rows ≡ true → AcceptedNet board n
net_passed board n w weighs ranges differ allowed fits =
    let s = (length_is board n).0 allowed in
    let r = (net_range_is board n w).0 ranges in
    record {
      in_range = r.0;
      ends_differ = (differ_is n.left.0 n.right.0).0 differ;
      some_shape = s.0;
      some_length = s.1;
      fits_board = leb-true _ _ fits;
      weight_is = weighs r.1;
    }

module _ (k : ℕ) (job : Job) (n : Net) (w : Option ℕ) (weighs : WeightInRange w → Weighs job.board n) (a : AcceptedJob job) where
  record Facts : Type 0 where
    ranges : net_in_range job.board n w ≡ true
    few : ltb (length job.nets) 512 ≡ true
    above : is_above n job.nets ≡ true
    free : all_of (pins_free n) job.nets ≡ true
    differ : not (eqb n.left.0 n.right.0) ≡ true
    allowed : leb (length_of job.board n (shortest job.board n)) n.max ≡ true
    fits : leb (needed job.board n) job.board.rows ≡ true

  new_net : Facts → AcceptedNet job.board n
  new_net t = net_passed job.board n w weighs t.ranges t.differ t.allowed t.fits

  net_accepted : Facts → AcceptedJob (with_net job n)
  unfolding is_above
  net_accepted t =
      let m = last_most 0 job.nets a.numbers_rise (Each-each job.nets (λ x i. omega arith)) in
      let l = ltb-true (last_number 0 job.nets) n.number t.above in
      let pins = Each-of (pins_free n) job.nets (λ m h. (free_is n m).0 h) t.free in
      record {
        board_range = a.board_range;
        nets_count = omega (arith, length-append job.nets (n ∷ []), ltb-true (length job.nets) 512 t.few);
        blocks_count = a.blocks_count;
        nets_each = λ m i. ⊎_elim
            (λ j. a.nets_each m j)
            (λ j. let q : m ≡ n = Memᴰ.eq_of_singleton j in rw q (new_net t))
            (Memᴰ.append_cases job.nets i);
        blocks_each = a.blocks_each;
        numbers_rise = EachPair-join (λ x y. x.number < y.number) job.nets (n ∷ []) a.numbers_rise (tt, tt)
            (Each-map job.nets (λ x y. (omega (arith, y, l), tt)) m.1);
        lefts_differ = EachPair-join (λ x y. x.left.0 ≡ y.left.0 → ⊥) job.nets (n ∷ []) a.lefts_differ (tt, tt)
            (Each-map job.nets (λ m p. (p.0, tt)) pins);
        rights_differ = EachPair-join (λ x y. x.right.0 ≡ y.right.0 → ⊥) job.nets (n ∷ []) a.rights_differ (tt, tt)
            (Each-map job.nets (λ m p. (p.1, tt)) pins);
      }

  net_gives : Gives (add_net k n w job)
  unfolding add_net test_net
  net_gives =
      unless_gives _ _ _ (λ e3.
      unless_gives _ _ _ (λ e4.
      unless_gives _ _ _ (λ e5.
      unless_gives _ _ _ (λ e6.
      unless_gives _ _ _ (λ e7.
      unless_gives _ _ _ (λ e8.
      unless_gives _ _ _ (λ e9.
      go_gives (filled (with_net job n))
      (net_accepted (record {
        ranges = search;
        few = search;
        above = search;
        free = search;
        differ = search;
        allowed = search;
        fits = search;
      })))))))))

module _ (k : ℕ) (job : Job) (b : Block) (a : AcceptedJob job) where
  block_accepted : block_in_range job.board b ≡ true → ltb (length job.blocks) 256 ≡ true → AcceptedJob (with_block job b)
  block_accepted h l =
      record {
        board_range = a.board_range;
        nets_count = a.nets_count;
        blocks_count = omega (arith, length-append job.blocks (b ∷ []), ltb-true (length job.blocks) 256 l);
        nets_each = a.nets_each;
        blocks_each = λ x i. ⊎_elim
            (λ j. a.blocks_each x j)
            (λ j. let q : x ≡ b = Memᴰ.eq_of_singleton j in rw q ((block_range_is job.board b).0 h))
            (Memᴰ.append_cases job.blocks i);
        numbers_rise = a.numbers_rise;
        lefts_differ = a.lefts_differ;
        rights_differ = a.rights_differ;
      }

  block_gives : Gives (add_block k b job)
  unfolding add_block
  block_gives =
      unless_gives _ _ _ (λ e3. unless_gives _ _ _ (λ e4. go_gives (filled (with_block job b)) (block_accepted (search) (search))))

empty_accepted : (h k : ℕ) → (1 ≤ h) × (h ≤ 1024) → (1 ≤ k) × (k ≤ 128) → AcceptedJob (empty_job (board_of h k))
empty_accepted h k a b =
    record {
      board_range = record { rows_range = a; tracks_range = b };
      nets_count = omega arith;
      blocks_count = omega arith;
      nets_each = λ n i. absurd (Memᴰ.not-nil i);
      blocks_each = λ x i. absurd (Memᴰ.not-nil i);
      numbers_rise = tt;
      lefts_differ = tt;
      rights_differ = tt;
    }

-- ---- a line

start_gives : (k : ℕ) (s : State) (x : Next) → Gives x → Gives (at_start k s x)
unfolding at_start
start_gives k start x g = g
start_gives k opened x g = stop_gives (NotOfForm k)
start_gives k (sized h) x g = stop_gives (NotOfForm k)
start_gives k (filled j) x g = stop_gives (NotOfForm k)
start_gives k (closed j) x g = stop_gives (NotOfForm k)

opened_gives : (k : ℕ) (s : State) (x : Next) → Gives x → Gives (at_opened k s x)
unfolding at_opened
opened_gives k start x g = stop_gives (NotOfForm k)
opened_gives k opened x g = g
opened_gives k (sized h) x g = stop_gives (NotOfForm k)
opened_gives k (filled j) x g = stop_gives (NotOfForm k)
opened_gives k (closed j) x g = stop_gives (NotOfForm k)

sized_gives : (k : ℕ) (s : State) (f : ℕ → Next) → AcceptedState s → ((h : ℕ) → AcceptedState (sized h) → Gives (f h)) → Gives (at_sized k s f)
unfolding at_sized
sized_gives k start f a g = stop_gives (NotOfForm k)
sized_gives k opened f a g = stop_gives (NotOfForm k)
sized_gives k (sized h) f a g = g h a
sized_gives k (filled j) f a g = stop_gives (NotOfForm k)
sized_gives k (closed j) f a g = stop_gives (NotOfForm k)

filled_gives : (k : ℕ) (s : State) (f : Job → Next) → AcceptedState s → ((j : Job) → AcceptedJob j → Gives (f j)) → Gives (at_filled k s f)
unfolding at_filled
filled_gives k start f a g = stop_gives (NotOfForm k)
filled_gives k opened f a g = stop_gives (NotOfForm k)
filled_gives k (sized h) f a g = stop_gives (NotOfForm k)
filled_gives k (filled j) f a g = g j a
filled_gives k (closed j) f a g = stop_gives (NotOfForm k)

step_gives : (k : ℕ) (s : State) (x : Form) → AcceptedState s → Gives (step k s x)
unfolding step
step_gives k s Is.Blank g = go_gives s g
step_gives k s Is.Board g = start_gives k s (go opened) (go_gives opened tt)
step_gives k s (Is.Rows h) g =
    opened_gives k s _ (unless_gives _ _ _ (λ e. go_gives (sized h) (omega (arith, (within_is _ _ h).0 e))))
step_gives k s (Is.Tracks t) g =
    sized_gives k s _ g (λ h r.
    unless_gives _ _ _ (λ e.
    go_gives (filled (empty_job (board_of h t))) (empty_accepted h t r (omega (arith, (within_is _ _ t).0 e)))))
step_gives k s (Is.Net i l r lo hi w) g =
    filled_gives k s _ g (λ j a. net_gives k j (net_given j.board i l r lo hi w) w (given_weighs j.board i l r lo hi w) a)
step_gives k s (Is.Block t a b) g = filled_gives k s _ g (λ j c. block_gives k j (block_of t a b) c)
step_gives k s Is.Close g = filled_gives k s _ g (λ j a. go_gives (closed j) a)
step_gives k s Is.Other g = stop_gives (NotOfForm k)

-- ---- the whole text

pub not_refused : {P : Type 0} (o : Refusal) (j : Job) → refused o ≡ accepted j → P
not_refused o j e = absurd (let z : ◌≡◌ {A = ℕ} 0 1 = cc in omega arith)

ended_accepted : (k : ℕ) (s : State) (j : Job) → AcceptedState s → ended k s ≡ accepted j → AcceptedJob j
unfolding ended
ended_accepted k start j g e = not_refused (NotOfForm k) j e
ended_accepted k opened j g e = not_refused (NotOfForm k) j e
ended_accepted k (sized h) j g e = not_refused (NotOfForm k) j e
ended_accepted k (filled i) j g e = not_refused (NotOfForm k) j e
ended_accepted k (closed i) j g e = let q : i ≡ j = cc in rw q at g

follow_accepted : (x : Next) (f : State → Read) (j : Job) → ((s : State) → x ≡ go s → f s ≡ accepted j → AcceptedJob j) →
    follow x f ≡ accepted j → AcceptedJob j
unfolding follow
follow_accepted (go s) f j g e = g s refl e
follow_accepted (stop o) f j g e = not_refused o j e

from_accepted : (k : ℕ) (s : State) (ls : List (List ℕ)) (j : Job) → AcceptedState s → read_from k s ls ≡ accepted j → AcceptedJob j
unfolding read_from
from_accepted k s [] j g e = ended_accepted k s j g e
from_accepted k s (l ∷ ls) j g e =
    follow_accepted (step k s (read_form l)) (λ t. read_from _ t ls) j
    (λ t h. from_accepted _ t ls j (step_gives k s (read_form l) g t h)) e

pub read_accepted : (text : List ℕ) (job : Job) → read_job text ≡ accepted job → AcceptedJob job
read_accepted text job =
    read_cases text (λ r. r ≡ accepted job → AcceptedJob job)
    (λ h. from_accepted 1 start (lines text) job tt)
    (λ h. not_refused TooLong job)
