-- The tree of a sound layout keeps the rules line by line. Assumes nothing.
use Prim.Native.Nat.{ℕ, suc, ◌+◌, ◌≤◌, ◌<◌}
use mathlib.Core.Path.{◌≡◌, refl, sym, ap, ◌∙◌}
use Rattle.std.specs.Prelude.{Some}
use mathlib.Core.Logic.{⊎_elim}
use mathlib.Core.List.{List, [], ◌∷◌, ◌++◌, map, map-append, append_assoc, Memᴰ}
use native.Mathlib.Omega.{arith}
use lib.Dec.{leb}
use lib.ListN.{length}
use borrow.Author.Tests.{leb-true, leb-false}
use Rattle.lists.specs.Lists.{Each, EachPair}
use Rattle.lists.proofs.Cases.{by_test}
use Rattle.lists.proofs.Laws.{Each-both, Each-at}
use Rattle.lists.proofs.Joins.{Each-each, EachPair-across}
use Rattle.board.specs.Length.{upper}
use Rattle.board.specs.Job.{Job}
use Rattle.board.specs.Placement.{Placement, bottom}
use Rattle.board.specs.Rival.{Apart}
use Rattle.board.proofs.SameNumber.{same_number}
use Rattle.board.proofs.ShortestShape.{span_add}
use Rattle.layout.specs.Tree.{Wire, DrawnTrack}
use Rattle.layout.specs.Drawing.{wire_of}
use Rattle.sound.specs.Wires.{wire_numbers, track_numbers}
use Rattle.sound.specs.Sound.{SoundPlacement, SoundTrack, SoundTracks}
use Rattle.sound.proofs.Sums.{Distinct}
use Rattle.drc.specs.Breach.{Draws}
use Rattle.drc.specs.Covers.{covers_of}
use Rattle.drc.proofs.Drawings.{drawn_of_lem, covers_of_lem}
use Rattle.drc.proofs.WireRule.{WireKept, draws_legal}
use Rattle.drc.proofs.RulesByLine.{KeptWires, KeptTracks, KeptLoose}
use Rattle.drc.proofs.RulesToSound.{net_numbers_of}
use Rattle.std.proofs.lemmas.Option.{same_Some}

-- of two placements with rising tops that share no row, the first ends above the second
rising_apart : (p q : Placement) → p.top < q.top → Apart p q → bottom p < q.top
rising_apart p q r a =
    by_test (leb q.top (bottom p))
    (λ e. absurd (a q.top (omega arith) (leb-true q.top (bottom p) e) (omega arith) (omega arith)))
    (λ e. leb-false q.top (bottom p) e)

rows_of : (ps : List Placement) → EachPair (λ p q. p.top < q.top) ps → EachPair Apart ps → EachPair (λ p q. bottom p < q.top) ps
rows_of [] r a = tt
rows_of (p ∷ ps) r a = (Each-both ps (λ q x y. rising_apart p q x y) r.0 a.0, rows_of ps r.1 a.1)

module _ (job : Job) (rise : EachPair (λ a b. a.number < b.number) job.nets) where
  -- ---- the wires of a track, of which `all` are the placements
  module _ (t : ℕ) (earlier : List ℕ) (on_track : 1 ≤ t) (on_board : t ≤ job.board.tracks) (all : List Placement)
      (placed : Each (SoundPlacement job earlier t) all) (rows : EachPair (λ p q. bottom p < q.top) all) (fresh : Each (λ p. Memᴰ p.net.number earlier → ⊥) all) where
    draws : (p : Placement) → SoundPlacement job earlier t p → Draws job t (wire_of job.board t p) p
    draws p l = draws_legal on_track on_board l.of_job l.legal refl

    -- a net does not stand above itself
    not_again : (q p : Placement) → SoundPlacement job earlier t q → SoundPlacement job earlier t p → bottom q < p.top → p.net.number ≡ q.net.number → ⊥
    not_again q p lq lp b e =
        let n = same_number job.nets rise p.net q.net lp.of_job lq.of_job e in
        omega (arith, lq.legal, lp.legal, ap upper n, span_add q.net)

    -- the wire of p, behind those of qs
    one_kept : (qs : List Placement) (p : Placement) (ps : List Placement) → qs ++ (p ∷ ps) ≡ all →
        WireKept job t earlier (map (wire_of job.board t) qs) (wire_of job.board t p)
    unfolding wire_of
    one_kept qs p ps e =
        let ip : Memᴰ p all = rw (← e) (mathlib.Core.List.Memᴰ.append_right qs (mathlib.Core.List.Memᴰ.head refl)) in
        let iq : (q : Placement) → Memᴰ q qs → Memᴰ q all = λ q i. rw (← e) (mathlib.Core.List.Memᴰ.append_left (p ∷ ps) i) in
        let at : (q : Placement) → Memᴰ q all → SoundPlacement job earlier t q = λ q i. Each-at (SoundPlacement job earlier t) all q placed i in
        let rows' : EachPair (λ x y. bottom x < y.top) (qs ++ (p ∷ ps)) = rw e rows in
        let over : (q : Placement) → Memᴰ q qs → bottom q < p.top =
        λ q i. (Each-at (λ x. Each (λ y. bottom x < y.top) (p ∷ ps)) qs q (EachPair-across (λ x y. bottom x < y.top) qs (p ∷ ps) rows') i).0 in
        let l = at p ip in
        record {
          place = p;
          found = drawn_of_lem job t rise (wire_of job.board t p) p (draws p l);
          allowed = l.legal.allowed;
          clear = l.clear;
          new = λ i. ⊎_elim {A = Memᴰ p.net.number earlier}
              (Each-at (λ x. Memᴰ x.net.number earlier → ⊥) all p fresh ip)
              (λ j.
              let a = mathlib.Core.List.Memᴰ.of_map (λ (w : Wire). w.number) (map (wire_of job.board t) qs) j in
              let b = mathlib.Core.List.Memᴰ.of_map (wire_of job.board t) qs a.1 in
              let n : b.0.net.number ≡ p.net.number = ap (λ (w : Wire). w.number) b.2 ∙ a.2 in
              not_again b.0 p (at b.0 (iq b.0 b.1)) l (over b.0 b.1) (sym n))
              (mathlib.Core.List.Memᴰ.append_cases earlier i);
          ready = l.ready;
          under = λ v q i d.
              let b = mathlib.Core.List.Memᴰ.of_map (wire_of job.board t) qs i in
              let f = covers_of_lem job rise t (wire_of job.board t b.0) b.0 (draws b.0 (at b.0 (iq b.0 b.1))) in
              let same : b.0 ≡ q = same_Some b.0 q (sym f ∙ ap (covers_of job) b.2 ∙ d) in
              rw same at (over b.0 b.1);
        }

    wires_kept : (qs ps : List Placement) → qs ++ ps ≡ all → KeptWires job t earlier (map (wire_of job.board t) qs) (map (wire_of job.board t) ps)
    wires_kept qs [] e = tt
    wires_kept qs (p ∷ ps) e =
        (one_kept qs p ps e, rw (map-append (wire_of job.board t) qs (p ∷ [])) at (wires_kept (qs ++ (p ∷ [])) ps (append_assoc qs (p ∷ []) ps ∙ e)))

  -- ---- the tracks

  -- numbers that stand once are new on their track
  pub fresh_of : (t : ℕ) (earlier : List ℕ) (ps : List Placement) (rest : List ℕ) → Distinct (earlier ++ (wire_numbers (map (wire_of job.board t) ps) ++ rest)) →
      Each (λ p. Memᴰ p.net.number earlier → ⊥) ps
  unfolding wire_of
  fresh_of t earlier ps rest d =
      let numbers = wire_numbers (map (wire_of job.board t) ps) ++ rest in
      Each-each ps (λ p i m.
      let here : Memᴰ p.net.number numbers = mathlib.Core.List.Memᴰ.append_left rest (mathlib.Core.List.Memᴰ.map (λ (w : Wire). w.number) (mathlib.Core.List.Memᴰ.map (wire_of job.board t) i)) in
      let a = Each-at (λ x. Each (λ y. x ≡ y → ⊥) numbers) earlier p.net.number (EachPair-across (λ x y. x ≡ y → ⊥) earlier numbers d) m in
      Each-at (λ y. p.net.number ≡ y → ⊥) numbers p.net.number a here refl)

  track_kept : (t : ℕ) (earlier : List ℕ) (tr : DrawnTrack) (rest : List ℕ) → 1 ≤ t → t ≤ job.board.tracks → SoundTrack job earlier t tr →
      Distinct (earlier ++ (wire_numbers tr.wires ++ rest)) → KeptWires job t earlier [] tr.wires
  track_kept t earlier tr rest o b s d =
      rw s.drawn
      (wires_kept t earlier o b s.places s.placed (rows_of s.places s.rising s.apart) (fresh_of t earlier s.places rest (rw s.drawn at d)) [] s.places refl)

  pub tracks_kept : (t : ℕ) (earlier : List ℕ) (trs : List DrawnTrack) (rest : List ℕ) → SoundTracks job earlier (suc t) trs → Distinct (earlier ++ (track_numbers trs ++ rest)) →
      t + length trs ≡ job.board.tracks → KeptTracks job t earlier trs
  unfolding track_numbers
  tracks_kept t earlier [] rest s d c = omega (arith, c)
  tracks_kept t earlier (tr ∷ trs) rest s d c =
      let ws = wire_numbers tr.wires in
      let d' : Distinct (earlier ++ (ws ++ (track_numbers trs ++ rest))) = rw (append_assoc ws (track_numbers trs) rest) at d in (
        s.0.track_is,
        s.0.sum_is,
        track_kept (suc t) earlier tr (track_numbers trs ++ rest) (omega arith) (omega arith) s.0 d',
        tracks_kept (suc t) (earlier ++ ws) trs rest s.1 (rw (append_assoc earlier ws (track_numbers trs ++ rest)) d') (omega arith),
      )

  -- ---- the loose lines, of which `all` are the numbers

  pub looses_kept : (wired all : List ℕ) → Each (λ k. Memᴰ k (net_numbers_of job)) all → Distinct (wired ++ all) → EachPair (λ j k. j < k) all →
      (ns ks : List ℕ) → ns ++ ks ≡ all → KeptLoose job wired ns ks
  looses_kept wired all known d r ns [] e = tt
  looses_kept wired all known d r ns (k ∷ ks) e =
      let ik : Memᴰ k all = rw (← e) (mathlib.Core.List.Memᴰ.append_right ns (mathlib.Core.List.Memᴰ.head refl)) in
      let r' : EachPair (λ i j. i < j) (ns ++ (k ∷ ks)) = rw e r in
      let above : (j : ℕ) → Memᴰ j ns → j < k = λ j i. (Each-at (λ x. Each (λ y. x < y) (k ∷ ks)) ns j (EachPair-across (λ x y. x < y) ns (k ∷ ks) r') i).0 in
      let unwired : Memᴰ k wired → ⊥ =
      λ m. Each-at (λ y. k ≡ y → ⊥) all k (Each-at (λ x. Each (λ y. x ≡ y → ⊥) all) wired k (EachPair-across (λ x y. x ≡ y → ⊥) wired all d) m) ik refl in (
        record {
          known = Each-at (λ j. Memᴰ j (net_numbers_of job)) all k known ik;
          new = λ m. ⊎_elim unwired (λ i. let z = above k i in omega arith) (mathlib.Core.List.Memᴰ.append_cases wired m);
          above = above;
        },
        looses_kept wired all known d r (ns ++ (k ∷ [])) ks (append_assoc ns (k ∷ []) ks ∙ e),
      )
