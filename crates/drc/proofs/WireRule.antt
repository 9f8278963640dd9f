-- The rules of a wire line: the test fails exactly at a broken one. Assumes nothing.
use Prim.Native.Nat.{ℕ, ◌≤◌, ◌<◌}
use mathlib.Core.Path.{◌≡◌, sym, ap, ◌∙◌}
use mathlib.Core.Logic.{⊎_elim}
use mathlib.Core.Bool.{Bool, true, false, not, ◌&&◌, ◌||◌, true≢false, false≢true}
use Rattle.std.specs.Prelude.{Some}
use mathlib.Core.List.Memᴰ
use mathlib.Core.List.{List, [], ◌++◌, append-nil, Memᴰ}
use native.Mathlib.Omega.{arith}
use lib.Dec.{leb}
use borrow.Author.Tests.{leb-true, leb-false, ltb-true, ltb-false, lt-ltb, not-false}
use Rattle.lists.specs.Lists.{EachPair, all_of}
use Rattle.lists.proofs.Cases.{by_test, by_option, and_split, and_both}
use Rattle.lists.proofs.Laws.{all_of_at, all_of_of}
use Rattle.lists.proofs.Joins.{all_of_false}
use Rattle.board.specs.declared.Net.{Net}
use Rattle.board.specs.Length.{Allowed}
use Rattle.board.specs.Job.{Job}
use Rattle.board.specs.Placement.{Placement, Legal, Clear, bottom}
use Rattle.board.specs.Precedence.{Precedes}
use Rattle.board.specs.Tests.{is_long, is_short, is_clear, is_on, is_before, is_ready}
use Rattle.board.proofs.ExactTests.{long_exact, short_exact, clear_exact, fresh_exact, listed_on, on_listed, precedes_exact, ready_exact}
use Rattle.board.proofs.SameNumber.{same_number}
use Rattle.layout.specs.Tree.{Wire}
use Rattle.layout.specs.Drawing.{wire_of}
use Rattle.sound.specs.Wires.{wire_numbers}
use Rattle.drc.specs.Breach.{Draws, WireBreach, not_placed, shared_row, wrong_order, repeated_net, preceding_net}
use Rattle.drc.specs.Covers.{drawn_by, covers_of}
use Rattle.drc.specs.Judge.{is_below, is_sound_place, is_sound_wire}
use Rattle.drc.proofs.FailedTests.{and_fails, or_fails, passes_and_fails}
use Rattle.drc.proofs.Drawings.{drawn_some, drawn_of_lem, same_track, covers_some, covers_of_lem}
use Rattle.std.proofs.lemmas.Option.{none-some, same_Some}

-- the number of a wire is that of the net that it draws
pub number_drawn : {job : Job} {t : ℕ} {w : Wire} {p : Placement} → Draws job t w p → p.net.number ≡ w.number
unfolding wire_of
number_drawn d = sym (ap (λ (v : Wire). v.number) d.drawn)

-- a legal placement that is drawn
pub draws_legal : {job : Job} {t : ℕ} {w : Wire} {p : Placement} → 1 ≤ t → t ≤ job.board.tracks → Memᴰ p.net job.nets →
    Legal job.board p → w ≡ wire_of job.board t p → Draws job t w p
draws_legal a b i l d =
    record { from_track = a; to_track = b; of_job = i; from_one = l.from_one; over_upper = l.over_upper; under_lower = l.under_lower; to_last = l.to_last; drawn = d }

module _ (job : Job) (t : ℕ) (earlier : List ℕ) (ws : List Wire) where
  -- what a wire that passes has
  pub record WireKept (w : Wire) : Type 0 where
    pub place : Placement
    pub found : drawn_by job t w ≡ Some place
    pub allowed : Allowed job.board place.net place.shape
    pub clear : Clear job t place
    pub new : Memᴰ place.net.number (earlier ++ wire_numbers ws) → ⊥
    pub ready : (m : Net) → Memᴰ m job.nets → Precedes m place.net → Memᴰ m.number earlier
    pub under : (v : Wire) (q : Placement) → Memᴰ v ws → covers_of job v ≡ Some q → bottom q < place.top

  -- the five tests before the last, by name
  abbrev has_length : Placement → Bool
  has_length p = is_long job.board p && is_short job.board p

  abbrev is_fresh : Placement → Bool
  is_fresh p = not (is_on (earlier ++ wire_numbers ws) p.net)

  abbrev is_below_all : Placement → Bool
  is_below_all p = all_of (λ v. is_below p (covers_of job v)) ws

  pub wire_kept : (w : Wire) → is_sound_wire job t earlier ws (drawn_by job t w) ≡ true → WireKept w
  unfolding is_sound_wire is_sound_place is_below
  wire_kept w h =
      by_option (drawn_by job t w)
      (λ e. absurd (false≢true (rw e at h)))
      (λ p e.
      let h' : is_sound_wire job t earlier ws (Some p) ≡ true = rw e at h in
      let a = and_split (has_length p && is_clear job t p && is_fresh p && is_ready job earlier p.net) (is_below_all p) h' in
      let b = and_split (has_length p && is_clear job t p && is_fresh p) (is_ready job earlier p.net) a.0 in
      let c = and_split (has_length p && is_clear job t p) (is_fresh p) b.0 in
      let d = and_split (has_length p) (is_clear job t p) c.0 in
      let l = and_split (is_long job.board p) (is_short job.board p) d.0 in
      record {
        place = p;
        found = e;
        allowed = record { long = (long_exact job.board p).0 l.0; short = (short_exact job.board p).0 l.1 };
        clear = (clear_exact job t p).0 d.1;
        new = (fresh_exact (earlier ++ wire_numbers ws) p.net).0 c.1;
        ready = (ready_exact job earlier p.net).0 b.1;
        under = λ v q i d. ltb-true (bottom q) p.top (rw d at (all_of_at (λ u. is_below p (covers_of job u)) ws v a.1 i));
      })

  pub kept_wire : (w : Wire) → WireKept w → is_sound_wire job t earlier ws (drawn_by job t w) ≡ true
  unfolding is_sound_wire is_sound_place is_below
  kept_wire w k =
      let p = k.place in
      rw k.found
      (and_both _ _ (and_both _ _ (and_both _ _ (and_both _ _ (and_both _ _
      ((long_exact job.board p).1 k.allowed.long) ((short_exact job.board p).1 k.allowed.short))
      ((clear_exact job t p).1 k.clear))
      ((fresh_exact (earlier ++ wire_numbers ws) p.net).1 k.new))
      ((ready_exact job earlier p.net).1 k.ready))
      (all_of_of (λ u. is_below p (covers_of job u)) ws (λ v i.
      by_option (covers_of job v) (λ e. rw e) (λ q e. rw e (lt-ltb (bottom q) p.top (k.under v q i e))))))

  module _ (rise : EachPair (λ a b. a.number < b.number) job.nets) (on_track : 1 ≤ t) (on_board : t ≤ job.board.tracks) (ns : List ℕ) (w : Wire) where
    -- ---- a wire that fails is broken

    abbrev Broken : Type 0
    Broken = WireBreach job t earlier ws ns w

    -- any placement that w draws is the one found
    other : (p q : Placement) → drawn_by job t w ≡ Some p → Memᴰ q.net job.nets → Legal job.board q → w ≡ wire_of job.board t q → p ≡ q
    other p q e i l d = same_Some p q (sym e ∙ drawn_of_lem job t rise w q (draws_legal on_track on_board i l d))

    -- a test that each legal and clear placement passes
    fails_placed : (f : Placement → Bool) → ((q : Placement) → Legal job.board q → Clear job t q → f q ≡ true) →
        (p : Placement) → drawn_by job t w ≡ Some p → f p ≡ false → Broken
    fails_placed f g p e h = not_placed (λ q i l c d. passes_and_fails (f p) (ap f (other p q e i l d) ∙ g q l c) h)

    fails_length : (p : Placement) → drawn_by job t w ≡ Some p → has_length p ≡ false → Broken
    fails_length =
        fails_placed has_length (λ q l c. and_both (is_long job.board q) (is_short job.board q)
        ((long_exact job.board q).1 l.allowed.long) ((short_exact job.board q).1 l.allowed.short))

    fails_clear : (p : Placement) → drawn_by job t w ≡ Some p → is_clear job t p ≡ false → Broken
    fails_clear = fails_placed (is_clear job t) (λ q l c. (clear_exact job t q).1 c)

    fails_fresh : (p : Placement) → Draws job t w p → is_fresh p ≡ false → Broken
    fails_fresh p d f =
        repeated_net (Memᴰ.append_left ns (Memᴰ.cast (sym (number_drawn d))
        (listed_on (earlier ++ wire_numbers ws) p.net (not-false (is_on (earlier ++ wire_numbers ws) p.net) f))))

    fails_ready : (p : Placement) → Draws job t w p → is_ready job earlier p.net ≡ false → Broken
    unfolding is_ready
    fails_ready p d f =
        let m = all_of_false (λ m. not (is_before m p.net) || is_on earlier m) job.nets f in
        let o = or_fails (not (is_before m.0 p.net)) (is_on earlier m.0) m.2 in
        preceding_net {m = m.0} {n = p.net} m.1 d.of_job (number_drawn d)
        ((precedes_exact m.0 p.net).0 (not-false (is_before m.0 p.net) o.0))
        (λ i. passes_and_fails (is_on earlier m.0) (on_listed earlier m.0 i) o.1)

    fails_below : (p : Placement) → Draws job t w p → (v : Wire) → Memᴰ v ws → is_below p (covers_of job v) ≡ false → Broken
    unfolding is_below
    fails_below p d v i f =
        by_option (covers_of job v)
        (λ e. absurd (true≢false (rw e at f)))
        (λ q e.
        let g = covers_some job v q e in
        let l : p.top ≤ bottom q = ltb-false (bottom q) p.top (rw e at f) in
        by_test (leb p.top q.top)
        (λ x. wrong_order d i g (leb-true p.top q.top x))
        (λ x. let y : q.top < p.top = leb-false p.top q.top x in shared_row p.top d i g (omega arith) (omega arith) (omega arith) l))

    fails_drawn : (p : Placement) → drawn_by job t w ≡ Some p → is_sound_wire job t earlier ws (Some p) ≡ false → Broken
    unfolding is_sound_wire is_sound_place
    fails_drawn p e f =
        let d = drawn_some job t on_track on_board w p e in
        ⊎_elim
        (λ a. ⊎_elim
        (λ b. ⊎_elim
        (λ c. ⊎_elim (fails_length p e) (fails_clear p e) (and_fails (has_length p) (is_clear job t p) c))
        (fails_fresh p d)
        (and_fails (has_length p && is_clear job t p) (is_fresh p) b))
        (fails_ready p d)
        (and_fails (has_length p && is_clear job t p && is_fresh p) (is_ready job earlier p.net) a))
        (λ a. let m = all_of_false (λ v. is_below p (covers_of job v)) ws a in fails_below p d m.0 m.1 m.2)
        (and_fails (has_length p && is_clear job t p && is_fresh p && is_ready job earlier p.net) (is_below_all p) f)

    pub fails_wire : is_sound_wire job t earlier ws (drawn_by job t w) ≡ false → Broken
    fails_wire f =
        by_option (drawn_by job t w)
        (λ e. not_placed (λ p i l c d. none-some p (sym e ∙ drawn_of_lem job t rise w p (draws_legal on_track on_board i l d))))
        (λ p e. fails_drawn p e (rw e at f))

    -- ---- and only then
    module _ (k : WireKept w) (loose_none : ns ≡ []) where
      drawing : Draws job t w k.place
      drawing = drawn_some job t on_track on_board w k.place k.found

      the_place : (u : ℕ) (p : Placement) → Draws job u w p → k.place ≡ p
      the_place u p d =
          let d' : Draws job t w p = rw (same_track job t u w k.place p drawing d) at d in
          same_Some k.place p (sym k.found ∙ drawn_of_lem job t rise w p d')

      -- it lies below the wires above it
      lies_under : (i j : ℕ) (p q : Placement) (v : Wire) → Draws job i w p → Memᴰ v ws → Draws job j v q → bottom q < p.top
      lies_under i j p q v d m g = rw (the_place i p d) at (k.under v q m (covers_of_lem job rise j v q g))

      legal : Legal job.board k.place
      legal = record { allowed = k.allowed; from_one = drawing.from_one; over_upper = drawing.over_upper; under_lower = drawing.under_lower; to_last = drawing.to_last }

      pub kept_unbroken : Broken → ⊥
      kept_unbroken (not_placed f) = f k.place drawing.of_job legal k.clear drawing.drawn
      kept_unbroken (shared_row {p = p} {q = q} {v = v} {i = x} {j = y} row d i g a b c f) = omega (arith, lies_under x y p q v d i g)
      kept_unbroken (wrong_order {p = p} {q = q} {v = v} {i = x} {j = y} d i g l) = omega (arith, lies_under x y p q v d i g)
      kept_unbroken (repeated_net i) =
          k.new (Memᴰ.cast (number_drawn drawing) (rw (loose_none, append-nil (earlier ++ wire_numbers ws)) at i))
      kept_unbroken (preceding_net {m = m} {n = n} mi ni e p f) =
          let same : n ≡ k.place.net = same_number job.nets rise n k.place.net ni drawing.of_job (e ∙ sym (number_drawn drawing)) in
          f (k.ready m mi (rw same at p))
