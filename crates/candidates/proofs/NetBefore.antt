-- The index of the net that precedes a net: found by left rows, at most one, and within the arrays. Assumes nothing.
use Prim.Native.Nat.{ℕ, suc, ◌+◌, ◌-◌, ◌≤◌, ◌<◌}
use mathlib.Core.Path.{◌≡◌, refl, sym, ap, ◌∙◌}
use mathlib.Core.Bool.{Bool, false}
use mathlib.Core.List.{List, [], ◌∷◌, ◌++◌, map, map-append, Memᴰ}
use native.Mathlib.Omega.{arith}
use lib.Dec.{eqb}
use lib.ListN.{length, get_or, take, set, replicate, length-map, get_or-replicate, get_or-append}
use lib.Seq.{take-length, length-take-le, get_or-set_same, get_or-set_other}
use borrow.Author.Tests.{eqb-true, eqb-false, ne_eqb}
use Rattle.lists.specs.Lists.{Each, EachPair}
use Rattle.lists.proofs.Cases.{by_test}
use Rattle.lists.proofs.Laws.{Each-map}
use Rattle.lists.proofs.Joins.{EachPair-map}
use Rattle.lists.proofs.Places.{take_more, mem_at, pair_before, same_key}
use Rattle.board.specs.declared.Net.{Net}
use Rattle.board.specs.Stored.{no_net}
use Rattle.board.specs.Job.{Job}
use Rattle.board.specs.Accepted.{AcceptedJob, AcceptedNet}
use Rattle.board.specs.Tests.{is_before}
use Rattle.std.specs.Prelude.{Option, None, Some, IfSome}
use Rattle.std.specs.List.{position_from}
use Rattle.std.proofs.lemmas.Iterator.Adapters.{position_from-zero}
use Rattle.std.proofs.lemmas.List.{get_or-map, take_all}
use Rattle.candidates.specs.Placed.{padded, before_in, preceding_of}
use Rattle.candidates.proofs.Prefixes.{padded_more}

module _ (f : Net → Bool) where
  -- none of the first passes
  pub position_after : (xs ys : List Net) (i : ℕ) → Each (λ x. f x ≡ false) xs → position_from f i (xs ++ ys) ≡ position_from f (i + length xs) ys
  position_after [] ys i a =
      let e : i + 0 ≡ i = omega arith in
      rw e
  position_after (x ∷ xs) ys i a =
      let e : i + 1 + length xs ≡ i + suc (length xs) = omega arith in
      rw (a.0, ← e) (position_after xs ys (i + 1) a.1)

  -- the last does not pass
  pub position_skip : (xs : List Net) (x : Net) (i : ℕ) → f x ≡ false → position_from f i (xs ++ (x ∷ [])) ≡ position_from f i xs
  position_skip [] x i e = rw e
  position_skip (y ∷ ys) x i e = rw (position_skip ys x (i + 1) e)

  pub position_range : (xs : List Net) (i n : ℕ) → i + length xs ≤ n → IfSome (position_from f i xs) (λ k. k < n)
  position_range [] i n h = tt
  position_range (x ∷ xs) i n h =
      by_test (f x) (λ e. rw e (omega arith)) (λ e. rw e (position_range xs (i + 1) n (omega arith)))

-- tests that agree on the nets
pub position_same : (f g : Net → Bool) (xs : List Net) (i : ℕ) → ((x : Net) → Memᴰ x xs → f x ≡ g x) → position_from f i xs ≡ position_from g i xs
position_same f g [] i h = refl
position_same f g (x ∷ xs) i h =
    rw (h x (Memᴰ.head refl), position_same f g xs (i + 1) (λ y m. h y (Memᴰ.tail m)))

-- the table by left rows, of the nets ns
abbrev pub ByLeft : List (Option ℕ) → List Net → Type 0
ByLeft table ns = (row : ℕ) → 1 ≤ row → row ≤ 1024 → get_or table (row - 1) None ≡ position_from (λ n. eqb n.left.0 row) 0 ns

pub by_left_none : (ns : List Net) → ByLeft (replicate 1024 None) (take 0 ns)
by_left_none ns row a b = get_or-replicate {A = Option ℕ} 1024 (row - 1) None None (omega arith)

-- the index of the net that precedes n among ns, counted as the look-up counts
pub before_from : (ns : List Net) (n : Net) → before_in ns n ≡ position_from (λ m. is_before m n) 0 ns
unfolding before_in
before_from ns n = position_from-zero (λ m. is_before m n) ns

-- numbers that rise differ
pub numbers_differ : (ns : List Net) → EachPair (λ m n. m.number < n.number) ns → EachPair (λ m n. m.number ≡ n.number → ⊥) ns
numbers_differ ns p = EachPair-map ns (λ m n l (e : m.number ≡ n.number). omega arith) p

-- what is known of net i of an accepted job
module _ (job : Job) (a : AcceptedJob job) (i : ℕ) (h : i < length job.nets) where
  abbrev net : Net
  net = get_or job.nets i no_net

  pub net_mem : Memᴰ net job.nets
  net_mem = mem_at job.nets i no_net h

  pub accepted_at : AcceptedNet job.board net
  accepted_at = a.nets_each net net_mem

  -- its pins are on rows
  pub pin_rows : (1 ≤ net.left.0) × (net.left.0 ≤ 1024) × (1 ≤ net.right.0) × (net.right.0 ≤ 1024)
  pin_rows =
      let r = accepted_at.in_range in
      let rows = a.board_range.rows_range in
      omega arith

  -- no net before it has its left row
  lefts_before : Each (λ n. n.left.0 ≡ net.left.0 → ⊥) (take i job.nets)
  lefts_before =
      let all : EachPair (λ m n. m.left.0 ≡ n.left.0 → ⊥) (take (length job.nets) job.nets) = rw (take-length job.nets) a.lefts_differ in
      pair_before (λ m n. m.left.0 ≡ n.left.0 → ⊥) job.nets (length job.nets) i no_net h (omega arith) all

  pub by_left_more : (table : List (Option ℕ)) → length table ≡ 1024 → ByLeft table (take i job.nets)
      → ByLeft (set table (net.left.0 - 1) (Some i)) (take (i + 1) job.nets)
  by_left_more table k p row l r =
      let rows = pin_rows in
      let f : Net → Bool = λ m. eqb m.left.0 row in
      by_test (eqb net.left.0 row)
      (λ t.
      let e : net.left.0 ≡ row = eqb-true net.left.0 row t in
      let none : Each (λ m. f m ≡ false) (take i job.nets) =
      Each-map (take i job.nets) (λ m d. ne_eqb m.left.0 row (λ q. d (q ∙ sym e))) lefts_before in
      let at : 0 + length (take i job.nets) ≡ i = omega (arith, length-take-le i job.nets (omega arith)) in
      rw (take_more job.nets i no_net h, position_after f (take i job.nets) (net ∷ []) 0 none, at, t, e)
      (get_or-set_same table (row - 1) (Some i) None (omega arith)))
      (λ t.
      let d : net.left.0 ≡ row → ⊥ = eqb-false net.left.0 row t in
      let d' : row - 1 ≡ net.left.0 - 1 → ⊥ = λ q. d (omega arith) in
      rw (take_more job.nets i no_net h, position_skip f (take i job.nets) net 0 t)
      (get_or-set_other table (net.left.0 - 1) (row - 1) (Some i) None d' ∙ p row l r))

  -- the net whose left row is its right row is another one, so it precedes it
  before_test : (m : Net) → Memᴰ m job.nets → eqb m.left.0 net.right.0 ≡ is_before m net
  unfolding is_before
  before_test m k =
      by_test (eqb m.number net.number)
      (λ t.
      let same = same_key (λ x. x.number) job.nets (numbers_differ job.nets a.numbers_rise) m net k net_mem (eqb-true m.number net.number t) in
      let d : m.left.0 ≡ net.right.0 → ⊥ = λ q. accepted_at.ends_differ (sym (ap (λ x. x.left.0) same) ∙ q) in
      rw (ne_eqb m.left.0 net.right.0 d, t))
      (λ t. rw t)

  -- one more net
  pub before_more : (by_left before : List (Option ℕ)) → ByLeft by_left job.nets → before ≡ padded None (map (before_in job.nets) (take i job.nets))
      → set before i (get_or by_left (net.right.0 - 1) None) ≡ padded None (map (before_in job.nets) (take (i + 1) job.nets))
  before_more by_left before p e =
      let rows = pin_rows in
      let few = a.nets_count in
      let found : get_or by_left (net.right.0 - 1) None ≡ before_in job.nets net =
      p net.right.0 (omega arith) (omega arith) ∙ position_same (λ m. eqb m.left.0 net.right.0) (λ m. is_before m net) job.nets 0 before_test ∙
      sym (before_from job.nets net) in
      let l : length (map (before_in job.nets) (take i job.nets)) ≡ i =
      length-map (take i job.nets) (before_in job.nets) ∙ length-take-le i job.nets (omega arith) in
      rw (take_more job.nets i no_net h, map-append (before_in job.nets) (take i job.nets) (net ∷ []), e, found)
      (padded_more None i (before_in job.nets net) (map (before_in job.nets) (take i job.nets)) l (omega arith))

  -- what the array has of it
  pub preceding_at : get_or (preceding_of job) i None ≡ before_in job.nets net
  unfolding preceding_of padded
  preceding_at =
      let g = before_in job.nets in
      let l : i < length (map g job.nets) = omega (arith, length-map job.nets g) in
      get_or-append (map g job.nets) (replicate (512 - length (map g job.nets)) None) None i l
      ∙ get_or-map g job.nets i no_net None h

  pub preceding_range : IfSome (get_or (preceding_of job) i None) (λ k. k < 512)
  preceding_range =
      let c = a.nets_count in
      rw (preceding_at, before_from job.nets net) (position_range (λ m. is_before m net) job.nets 0 512 (omega arith))

pub before_none : (ns : List Net) (g : Net → Option ℕ) → replicate 512 None ≡ padded None (map g (take 0 ns))
unfolding padded
before_none ns g = refl

pub before_all : (before : List (Option ℕ)) (job : Job) (i : ℕ) → length job.nets ≤ i
    → before ≡ padded None (map (before_in job.nets) (take i job.nets)) → before ≡ preceding_of job
unfolding preceding_of
before_all before job i h p = rw (take_all i job.nets h) at p

-- the pins of a net that the job lends are on rows
pub pins_at : (job : Job) → AcceptedJob job → (ns : List Net) → ns ≡ job.nets → (i : ℕ) → i < length ns →
    let net = get_or ns i no_net in (1 ≤ net.left.0) × (net.left.0 ≤ 1024) × (1 ≤ net.right.0) × (net.right.0 ≤ 1024)
pins_at job a ns e i h = rw e (pin_rows job a i (rw e at h))
