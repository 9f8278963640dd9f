-- An array with an entry for each net, after a wire's entry is stored for each wire of a track: the nets with a wire have that entry, the
-- others keep theirs. Assumes nothing.
use Prim.Native.Nat.{ℕ, zero, suc, ◌<◌}
use mathlib.Core.Path.{◌≡◌, refl, sym, ap, ◌∙◌}
use mathlib.Core.Bool.{true, false, cond}
use Rattle.std.specs.Prelude.{Option, None, Some}
use mathlib.Core.List.{List, [], ◌∷◌, ◌++◌, map, Memᴰ}
use native.Mathlib.Omega.{arith}
use lib.Dec.{eqb}
use lib.ListN.{set}
use borrow.Author.Tests.{eqb-true, eq-eqb, ne_eqb}
use Rattle.lists.specs.Lists.{Each, EachPair, first_of}
use Rattle.lists.proofs.Cases.{by_test}
use Rattle.lists.proofs.Laws.{Each-at}
use Rattle.lists.proofs.Places.{map_same}
use Rattle.board.specs.declared.Net.{Net}
use Rattle.board.specs.Placement.{Placement}
use Rattle.planner.specs.JobPlans.{wire_with}
use Rattle.planner.proofs.ChoiceRows.{IndexOf}

index_mem : (ns : List Net) (n : Net) (i : ℕ) → IndexOf ns n i → Memᴰ n ns
index_mem [] n i r = absurd (omega (arith, r.below))
index_mem (x ∷ xs) n zero r = Memᴰ.head (sym (r.there x))
index_mem (x ∷ xs) n (suc i) r = Memᴰ.tail (index_mem xs n i (record { below = omega (arith, r.below); there = r.there }))

-- no wire has number k
pub wire_none : (k : ℕ) (ps : List Placement) → Each (λ p. k ≡ p.net.number → ⊥) ps → wire_with k ps ≡ None
unfolding wire_with first_of
wire_none k [] h = refl
wire_none k (p ∷ ps) h = rw (ne_eqb p.net.number k (λ q. h.0 (sym q))) (wire_none k ps h.1)

-- the first wire has number k, or not
pub wire_here : (k : ℕ) (p : Placement) (ps : List Placement) → eqb p.net.number k ≡ true → wire_with k (p ∷ ps) ≡ Some p
unfolding wire_with first_of
wire_here k p ps e = rw e

pub wire_later : (k : ℕ) (p : Placement) (ps : List Placement) → eqb p.net.number k ≡ false → wire_with k (p ∷ ps) ≡ wire_with k ps
unfolding wire_with first_of
wire_later k p ps e = rw e

module _ {B : Type 0} where
  -- what the net with number k gets, and what the others keep
  abbrev given : ℕ → B → (Net → B) → Net → B
  given k v f m = cond (eqb k m.number) v (f m)

  set_net : (f : Net → B) (ns : List Net) (rest : List B) (n : Net) (i : ℕ) (v : B) → EachPair (λ a b. a.number < b.number) ns → IndexOf ns n i →
      set (map f ns ++ rest) i v ≡ map (given n.number v f) ns ++ rest
  set_net f [] rest n i v rise r = absurd (omega (arith, r.below))
  set_net f (x ∷ xs) rest n zero v rise r =
      let q : x.number ≡ n.number = ap (λ (y : Net). y.number) (r.there x) in
      let kept = map_same f (given n.number v f) xs (λ y m. let l = Each-at (λ z. x.number < z.number) xs y rise.0 m in rw (ne_eqb n.number y.number (λ z. omega arith))) in
      rw (eq-eqb n.number x.number (sym q)) (ap (λ l. v ∷ (l ++ rest)) kept)
  set_net f (x ∷ xs) rest n (suc i) v rise r =
      let r' : IndexOf xs n i = record { below = omega (arith, r.below); there = r.there } in
      let l = Each-at (λ z. x.number < z.number) xs n rise.0 (index_mem xs n i r') in
      rw (ne_eqb n.number x.number (λ z. omega arith)) (ap (λ l. f x ∷ l) (set_net f xs rest n i v rise.1 r'))

  -- a wire's entry stored for each wire, one after another
  abbrev pub marked : (Net → ℕ) → (Placement → B) → List Placement → List B → List B
  marked at entry [] xs = xs
  marked at entry (p ∷ ps) xs = marked at entry ps (set xs (at p.net) (entry p))

  -- the entry of a net: that of its wire, or else the one of before
  abbrev pub entry_or : (Placement → B) → B → Option Placement → B
  entry_or entry x None = x
  entry_or entry x (Some p) = entry p

  abbrev pub with_wires : (Placement → B) → List Placement → (Net → B) → Net → B
  with_wires entry ps f m = entry_or entry (f m) (wire_with m.number ps)

  with_first : (entry : Placement → B) (p : Placement) (ps : List Placement) (f : Net → B) (m : Net) → Each (λ q. p.net.number ≡ q.net.number → ⊥) ps →
      with_wires entry ps (given p.net.number (entry p) f) m ≡ with_wires entry (p ∷ ps) f m
  with_first entry p ps f m h =
      by_test (eqb p.net.number m.number)
      (λ e. let z : wire_with m.number ps ≡ None = wire_none m.number ps (rw (eqb-true p.net.number m.number e) at h) in
      rw (wire_here m.number p ps e, z, e))
      (λ e. rw (wire_later m.number p ps e, e))

  module _ (at : Net → ℕ) (entry : Placement → B) (ns : List Net) (rise : EachPair (λ a b. a.number < b.number) ns) (rest : List B) where
    pub marked_all : (ps : List Placement) (f : Net → B) → Each (λ p. IndexOf ns p.net (at p.net)) ps →
        EachPair (λ p q. p.net.number ≡ q.net.number → ⊥) ps → marked at entry ps (map f ns ++ rest) ≡ map (with_wires entry ps f) ns ++ rest
    unfolding wire_with first_of
    marked_all [] f r d = refl
    marked_all (p ∷ ps) f r d =
        let g : Net → B = given p.net.number (entry p) f in
        ap (marked at entry ps) (set_net f ns rest p.net (at p.net) (entry p) rise r.0) ∙
        marked_all ps g r.1 d.1 ∙
        ap (λ l. l ++ rest) (map_same (with_wires entry ps g) (with_wires entry (p ∷ ps) f) ns (λ m _. with_first entry p ps f m d.0))

-- what is made of an entry is made of the wire's and of the one of before
entry_or_map : {A B : Type 0} (g : A → B) (entry : Placement → A) (x : A) (o : Option Placement) → entry_or (λ p. g (entry p)) (g x) o ≡ g (entry_or entry x o)
entry_or_map g entry x None = refl
entry_or_map g entry x (Some p) = refl

pub with_map : {A B : Type 0} (g : A → B) (entry : Placement → A) (ps : List Placement) (f : Net → A) (n : Net) →
    with_wires (λ p. g (entry p)) ps (λ m. g (f m)) n ≡ g (with_wires entry ps f n)
with_map g entry ps f n = entry_or_map g entry (f n) (wire_with n.number ps)
