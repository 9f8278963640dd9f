-- The index of a net by its number: the numbers of a job's nets in an array, the first place of a number there, and the net found.
-- Assumes nothing.
use Prim.Native.Nat.{ℕ, suc, ◌+◌, ◌≤◌, ◌<◌}
use mathlib.Core.Path.{◌≡◌, refl, sym, ap, subst, ◌∙◌}
use mathlib.Core.Logic.{⊎_elim}
use mathlib.Core.Bool.{false, not, cond}
use Rattle.std.specs.Prelude.{None, Some, position}
use mathlib.Core.List.Memᴰ
use mathlib.Core.List.{List, [], ◌∷◌, map, map-append, Memᴰ}
use native.Mathlib.Omega.{arith}
use lib.Dec.{eqb, ltb}
use lib.ListN.{length, get_or, take, set, replicate, length-map}
use lib.Seq.{length-take-le}
use borrow.Author.Tests.{eqb-true, ltb-false}
use Rattle.std.specs.List.{position_or_len}
use Rattle.std.proofs.lemmas.List.Quantifiers.{position-Some}
use Rattle.lists.proofs.Cases.{by_test}
use Rattle.lists.proofs.Places.{take_more, mem_at}
use Rattle.board.specs.declared.Net.{Net}
use Rattle.board.specs.Job.{Job}
use Rattle.board.specs.Weight.{weight}
use Rattle.board.specs.Stored.{no_net}
use Rattle.board.specs.Accepted.{AcceptedJob}
use Rattle.sound.specs.Wires.{weight_of}
use Rattle.sound.proofs.Nets.{weight_of_lem}
use Rattle.candidates.specs.Placed.{padded}
use Rattle.candidates.proofs.Prefixes.{padded_more}
use Rattle.judging.specs.declared.found.NetFound.{NetFound}
use Rattle.judging.specs.Values.{is_numbered, position_numbered, NetIs}

-- ---- the numbers of nets in an array

abbrev pub numbers_in : List Net → List ℕ
numbers_in ns = map (λ n. n.number) ns

pub numbers_none : (ns : List Net) → replicate 512 0 ≡ padded 0 (numbers_in (take 0 ns))
unfolding padded
numbers_none ns = refl

pub numbers_more : (ns : List Net) (numbers : List ℕ) (i : ℕ) → i < length ns → i < 512 → numbers ≡ padded 0 (numbers_in (take i ns)) →
    set numbers i (get_or ns i no_net).number ≡ padded 0 (numbers_in (take (i + 1) ns))
numbers_more ns numbers i h l e =
    let n = get_or ns i no_net in
    let k : length (numbers_in (take i ns)) ≡ i = length-map (take i ns) (λ n. n.number) ∙ length-take-le i ns (omega arith) in
    rw (take_more ns i no_net h, map-append (λ n. n.number) (take i ns) (n ∷ []), e)
    (padded_more 0 i n.number (numbers_in (take i ns)) k l)

-- ---- the first place of a number

first_number : (k : ℕ) (ns : List Net) → position_or_len (λ x. eqb x k) (numbers_in ns) ≡ position_or_len (is_numbered k) ns
first_number k [] = refl
first_number k (n ∷ ns) = ap (λ i. cond (not (eqb n.number k)) (1 + i) 0) (first_number k ns)

-- a number stands in a list of numbers where the net with it stands in the list of nets
pub number_position : (k : ℕ) (ns : List Net) → position (λ x. eqb x k) (numbers_in ns) ≡ position_numbered k ns
unfolding position_numbered
number_position k ns = rw (first_number k ns, length-map ns (λ n. n.number))

-- ---- the net of an index

-- the net found has the number looked for
pub index_number : (ns : List Net) (k index : ℕ) → Some index ≡ position_numbered k ns → (index < length ns) × ((get_or ns index no_net).number ≡ k)
unfolding position_numbered
index_number ns k index is =
    let at = position-Some (is_numbered k) ns index no_net (sym is) in
    (at.0, eqb-true (get_or ns index no_net).number k at.1)

none_numbered : (ns : List Net) (k : ℕ) → length ns ≤ position_or_len (is_numbered k) ns → (n : Net) → Memᴰ n ns → is_numbered k n ≡ false
none_numbered [] k h n m = absurd (Memᴰ.not-nil m)
none_numbered (x ∷ xs) k h n m =
    by_test (eqb x.number k)
    (λ t. let z : suc (length xs) ≤ 0 = rw t at h in absurd (omega arith))
    (λ t.
    let z : suc (length xs) ≤ 1 + position_or_len (is_numbered k) xs = rw t at h in
    ⊎_elim (λ (q : n ≡ x). ap (is_numbered k) q ∙ t) (λ m'. none_numbered xs k (omega arith) n m') (Memᴰ.cases_cons m))

-- no net has it
pub index_none : (ns : List Net) (k : ℕ) → None ≡ position_numbered k ns → (n : Net) → Memᴰ n ns → is_numbered k n ≡ false
unfolding position_numbered
index_none ns k is n m =
    let first = position_or_len (is_numbered k) ns in
    by_test (ltb first (length ns))
    (λ t. let e : None ≡ Some first = rw t at is in let z : ◌≡◌ {A = ℕ} 0 1 = cc in absurd (omega arith))
    (λ t. none_numbered ns k (ltb-false first (length ns) t) n m)

-- ---- the net found

module _ (job : Job) (found : NetFound) (is : NetIs job found) where
  -- it is a net of the job
  pub found_listed : Memᴰ found.net.net job.nets
  found_listed = subst (λ q. Memᴰ q job.nets) is.net_is (mem_at job.nets found.index no_net is.index_range)

  -- a wire of its number counts its weight
  pub found_weight : AcceptedJob job → (k : ℕ) → found.net.net.number ≡ k → weight_of job k ≡ weight found.net.net
  found_weight a k e = ap (weight_of job) (sym e) ∙ weight_of_lem job a.numbers_rise found.net.net found_listed
