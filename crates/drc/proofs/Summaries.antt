-- What a pass keeps of the lines above tells as much as they do, as long as none of them is broken. Assumes nothing.
use Prim.Native.Nat.{ℕ, ◌≤◌, ◌<◌}
use mathlib.Core.Path.{◌≡◌, refl, sym, ap, ◌∙◌}
use mathlib.Core.Bool.{true, not, ◌&&◌, true≢false, and-false}
use Rattle.std.specs.Prelude.{None, Some}
use mathlib.Core.List.Memᴰ
use mathlib.Core.List.{List, [], ◌∷◌, ◌++◌, map, map-append, append_assoc, append-nil}
use native.Mathlib.Omega.{arith}
use lib.Dec.{eqb, ltb}
use borrow.Author.Tests.{ne_eqb, ltb-true, lt-ltb}
use Rattle.lists.specs.Lists.{any_of, all_of}
use Rattle.lists.proofs.Cases.{by_test, by_option, and_split}
use Rattle.lists.proofs.Laws.{any_of_mem}
use Rattle.lists.proofs.Joins.{all_of_append}
use Rattle.board.specs.Job.{Job}
use Rattle.board.specs.Placement.{Placement, bottom}
use Rattle.board.specs.Accepted.{AcceptedJob}
use Rattle.layout.specs.Tree.{Wire}
use Rattle.sound.specs.Wires.{wire_numbers}
use Rattle.drc.specs.Standing.{numbers_above}
use Rattle.drc.specs.Covers.{drawn_by, covers_of}
use Rattle.drc.specs.Judge.{none_loose, is_below, is_sound_place, is_sound_wire, is_unlined, is_sound_loose}
use Rattle.drc.specs.Pass.{Summary, empty_summary, add_track, is_next_wire, lowest_of, breach_after, add_wire, add_loose}
use Rattle.drc.proofs.Drawings.{drawn_some, covers_of_lem}
use Rattle.drc.proofs.JudgedTree.{some_loose}

-- the higher of two bounds decides
higher_bound : (a b x : ℕ) → a < b → (ltb a x && (ltb b x && true)) ≡ ltb b x
higher_bound a b x h =
    by_test (ltb b x)
    (λ e. rw (e, lt-ltb a x (omega (arith, ltb-true b x e))))
    (λ e. rw e (and-false (ltb a x)))

module _ (job : Job) where
  -- the lines above: the wires ws of the track, the loose lines ns, and what m keeps of them
  pub record SummaryFits (ws : List Wire) (ns : List ℕ) (m : Summary) : Type 0 where
    pub lined_is : m.lined ≡ numbers_above m.earlier ws ns
    pub lowest_is : (p : Placement) → 1 ≤ p.top → all_of (λ v. is_below p (covers_of job v)) ws ≡ ltb m.lowest p.top
    pub last_is : (k : ℕ) → 1 ≤ k → all_of (λ j. ltb j k) ns ≡ ltb m.last k
    pub loose_is : none_loose ns ≡ eqb m.last 0
    pub no_breach : m.breach ≡ None

  pub fits_empty : SummaryFits [] [] empty_summary
  unfolding all_of none_loose
  fits_empty = record {
    lined_is = refl;
    lowest_is = λ p h. sym (lt-ltb 0 p.top h);
    last_is = λ k h. sym (lt-ltb 0 k h);
    loose_is = refl;
    no_breach = refl;
  }

  -- the numbers of the wires above, where no loose line stands above
  pub wired_is : (ws : List Wire) (m : Summary) → SummaryFits ws [] m → m.lined ≡ m.earlier ++ wire_numbers ws
  wired_is ws m f = f.lined_is ∙ append-nil (m.earlier ++ wire_numbers ws)

  pub fits_track : (n u s : ℕ) (ws : List Wire) (m : Summary) → SummaryFits ws [] m → SummaryFits [] [] (add_track n u s m)
  unfolding all_of
  fits_track n u s ws m f = record {
    lined_is = sym (append-nil (m.lined ++ []) ∙ append-nil m.lined);
    lowest_is = λ p h. sym (lt-ltb 0 p.top h);
    last_is = f.last_is;
    loose_is = f.loose_is;
    no_breach = refl;
  }

  module _ (a : AcceptedJob job) where
    -- a net of the job has a number from 1 on
    known_number : (k : ℕ) → any_of (eqb k) (map (λ n. n.number) job.nets) ≡ true → 1 ≤ k
    known_number k h =
        let i = Memᴰ.of_map (λ n. n.number) job.nets (any_of_mem k (map (λ n. n.number) job.nets) h) in
        let r = (a.nets_each i.0 i.1).in_range.number_range in
        omega (arith, r, i.2)

    -- ---- a loose line

    pub next_loose : (ws : List Wire) (ns : List ℕ) (m : Summary) (k : ℕ) → SummaryFits ws ns m →
        (is_unlined job m.lined k && ltb m.last k) ≡ is_sound_loose job (numbers_above m.earlier ws ns) ns k
    unfolding is_sound_loose is_unlined
    next_loose ws ns m k f =
        let known = any_of (eqb k) (map (λ n. n.number) job.nets) in
        rw f.lined_is
        (by_test known
        (λ e. rw (e, f.last_is k (known_number k e)))
        (λ e. rw e))

    pub fits_loose : (ws : List Wire) (ns : List ℕ) (m : Summary) (k : ℕ) → SummaryFits ws ns m →
        (is_unlined job m.lined k && ltb m.last k) ≡ true → SummaryFits ws (ns ++ (k ∷ [])) (add_loose k m)
    unfolding is_unlined all_of
    fits_loose ws ns m k f h =
        let known = any_of (eqb k) (map (λ n. n.number) job.nets) in
        let s = and_split (is_unlined job m.lined k) (ltb m.last k) h in
        let one = known_number k (and_split known (not (any_of (eqb k) m.lined)) s.0).0 in
        record {
          lined_is = ap (λ (l : List ℕ). l ++ (k ∷ [])) f.lined_is ∙ append_assoc (m.earlier ++ wire_numbers ws) ns (k ∷ []);
          lowest_is = f.lowest_is;
          last_is = λ i l. rw (all_of_append (λ j. ltb j i) ns (k ∷ []), f.last_is i l) (higher_bound m.last k i (ltb-true m.last k s.1));
          loose_is = some_loose ns k ∙ sym (ne_eqb k 0 (λ (z : k ≡ 0). omega arith));
          no_breach = f.no_breach;
        }

    -- ---- a wire

    module _ (ws : List Wire) (m : Summary) (w : Wire) (f : SummaryFits ws [] m) (on_track : 1 ≤ m.track) (on_board : m.track ≤ job.board.tracks) where
      pub next_wire : is_next_wire job m (drawn_by job m.track w) ≡ is_sound_wire job m.track m.earlier ws (drawn_by job m.track w)
      unfolding is_next_wire is_sound_wire
      next_wire =
          by_option (drawn_by job m.track w)
          (λ e. rw e)
          (λ p e.
          let d = drawn_some job m.track on_track on_board w p e in
          rw (e, wired_is ws m f, f.lowest_is p d.from_one))

      pub fits_wire : (n : ℕ) → is_next_wire job m (drawn_by job m.track w) ≡ true → SummaryFits (ws ++ (w ∷ [])) [] (add_wire job n w (drawn_by job m.track w) m)
      unfolding is_next_wire lowest_of breach_after all_of is_below
      fits_wire n h =
          by_option (drawn_by job m.track w)
          (λ e. absurd (true≢false (sym (rw e at h))))
          (λ p e.
          let d = drawn_some job m.track on_track on_board w p e in
          let h' : is_next_wire job m (Some p) ≡ true = rw e at h in
          let under = ltb-true m.lowest p.top (and_split (is_sound_place job m.track m.earlier m.lined p) (ltb m.lowest p.top) h').1 in
          let lower_still : m.lowest < bottom p = omega (arith, under) in
          rw e
          (record {
            lined_is = ap (λ (l : List ℕ). l ++ (w.number ∷ [])) (wired_is ws m f) ∙ append_assoc m.earlier (wire_numbers ws) (w.number ∷ []) ∙
                ap (λ (l : List ℕ). m.earlier ++ l) (sym (map-append (λ (v : Wire). v.number) ws (w ∷ []))) ∙
                sym (append-nil (m.earlier ++ wire_numbers (ws ++ (w ∷ []))));
            lowest_is = λ q l.
                rw (all_of_append (λ v. is_below q (covers_of job v)) ws (w ∷ []), f.lowest_is q l, covers_of_lem job a.numbers_rise m.track w p d)
                (higher_bound m.lowest (bottom p) q.top lower_still);
            last_is = f.last_is;
            loose_is = f.loose_is;
            no_breach = rw (f.no_breach, h');
          }))
