-- One more net with a line, by value; and the test of a wire drawn on values is that of the definitions. Assumes nothing.
use Prim.Native.Nat.{ℕ, zero, suc, ◌+◌, ◌-◌, ◌<◌}
use mathlib.Core.Path.{◌≡◌, refl, sym, ap, subst, ◌∙◌}
use mathlib.Core.Bool.{true, false, ◌&&◌, ◌||◌, true≢false}
use Rattle.std.specs.Prelude.{Option, None, Some, is_some, is_none}
use mathlib.Core.List.{List, [], ◌∷◌, ◌++◌, map, Memᴰ}
use native.Mathlib.Omega.{arith}
use lib.Dec.{eqb, ltb}
use lib.ListN.{length, get_or, set, length-set, length-map}
use lib.Seq.{get_or-set_same, get_or-set_other}
use borrow.Author.Tests.{eq-eqb, ne_eqb, eqb-true, eqb-false, le-ltb, not-true}
use Rattle.lists.specs.Lists.{Each, EachPair, any_of}
use Rattle.lists.proofs.Laws.{Each-at, mem_any_of}
use Rattle.lists.proofs.Cases.{by_test, and_split}
use Rattle.lists.proofs.Joins.{any_of_more}
use Rattle.lists.proofs.Places.{mem_at, map_at}
use Rattle.board.specs.declared.Net.{Net}
use Rattle.board.specs.declared.Track.{Track}
use Rattle.board.specs.declared.Wired.{Wired}
use Rattle.board.specs.Job.{Job}
use Rattle.board.specs.Length.{span, extra}
use Rattle.board.specs.Placement.{placement_at, covered}
use Rattle.board.specs.Stored.{no_net}
use Rattle.board.specs.Accepted.{AcceptedJob}
use Rattle.board.specs.Tests.{is_on, is_long, is_short, is_clear, is_ready}
use Rattle.blockmap.specs.Clear.{all_unset}
use Rattle.candidates.specs.Placed.{before_in}
use Rattle.candidates.proofs.Eligible.{all_on}
use Rattle.blockmap.proofs.ClearRows.{clear_same}
use Rattle.drc.specs.Judge.{is_sound_place, is_unlined}
use Rattle.drc.specs.Pass.{Summary, is_next_wire}
use Rattle.judging.specs.declared.LinesAbove.{LinesAbove}
use Rattle.judging.specs.declared.found.NetFound.{NetFound}
use Rattle.judging.specs.Judged.{NetLines}
use Rattle.judging.proofs.Indexes.{index_number, index_none}
use Rattle.judging.specs.Values.{is_numbered, position_numbered, is_allowed, is_under, ready_at, is_next_at, NetIs, MapOf}

-- ---- one more line

on_more : (xs : List ℕ) (k : ℕ) (n : Net) → is_on (xs ++ (k ∷ [])) n ≡ (eqb n.number k || is_on xs n)
unfolding is_on
on_more xs k n = any_of_more (eqb n.number) xs k

-- a number that all others are above
least_number : (ns : List Net) (n : Net) → Each (λ q. n.number < q.number) ns → (k : ℕ) → k < length ns → n.number < (get_or ns k no_net).number
least_number ns n p k h = Each-at (λ q. n.number < q.number) ns (get_or ns k no_net) p (mem_at ns k no_net h)

-- numbers that rise stand at one place each
one_place : (ns : List Net) → EachPair (λ m n. m.number < n.number) ns → (i k : ℕ) → i < length ns → k < length ns →
    (get_or ns i no_net).number ≡ (get_or ns k no_net).number → i ≡ k
one_place [] p i k h l e = absurd (omega arith)
one_place (n ∷ ns) p zero zero h l e = refl
one_place (n ∷ ns) p zero (suc k) h l e = let o = least_number ns n p.0 k (omega arith) in absurd (omega arith)
one_place (n ∷ ns) p (suc i) zero h l e = let o = least_number ns n p.0 i (omega arith) in absurd (omega arith)
one_place (n ∷ ns) p (suc i) (suc k) h l e = ap suc (one_place ns p.1 i k (omega arith) (omega arith) e)

-- a number that no net has, and one that a net has
no_number : (ns : List Net) (k : ℕ) → ((n : Net) → Memᴰ n ns → is_numbered k n ≡ false) → any_of (eqb k) (map (λ n. n.number) ns) ≡ false
unfolding any_of
no_number [] k f = refl
no_number (n ∷ ns) k f =
    let d : n.number ≡ k → ⊥ = eqb-false n.number k (f n (Memᴰ.head refl)) in
    rw (ne_eqb k n.number (λ e. d (sym e)), no_number ns k (λ q i. f q (Memᴰ.tail i)))

some_number : (ns : List Net) (k i : ℕ) → i < length ns → (get_or ns i no_net).number ≡ k → any_of (eqb k) (map (λ n. n.number) ns) ≡ true
some_number ns k i h e =
    mem_any_of k (map (λ n. n.number) ns)
    (subst (λ q. Memᴰ q (map (λ n. n.number) ns)) (map_at (λ n. n.number) ns i no_net h ∙ e)
    (mem_at (map (λ n. n.number) ns) i 0 (omega (arith, length-map ns (λ n. n.number)))))

-- a net without a line above
none_under : (track : ℕ) (stood : Option Track) → is_some stood ≡ false → is_under track stood ≡ false
none_under track None e = refl
none_under track (Some t) e = absurd (true≢false e)

module _ (job : Job) (a : AcceptedJob job) where
  -- nets of two indexes have two numbers
  other_number : (i k : ℕ) → i < length job.nets → k < length job.nets → (k ≡ i → ⊥) →
      (get_or job.nets k no_net).number ≡ (get_or job.nets i no_net).number → ⊥
  other_number i k h l d e = d (one_place job.nets a.numbers_rise k i l h e)

  module _ (m m' : Summary) (stands : List (Option Track)) (i k : ℕ) (track : Track) (lined : m'.lined ≡ m.lined ++ (k ∷ [])) (earlier : m'.earlier ≡ m.earlier)
      (on : m'.track ≡ m.track) (under : m.track ≡ track.0) (h : i < length job.nets) (numbered : (get_or job.nets i no_net).number ≡ k)
      (new : is_some (get_or stands i None) ≡ false) (old : NetLines job m stands) where
    -- the track of the net with the line, and those of the others
    stood : (q : ℕ) → q ≡ i → get_or (set stands i (Some track)) q None ≡ Some track
    stood q e = rw e (get_or-set_same stands i (Some track) None (omega (arith, old.room)))

    others : (q : ℕ) → (q ≡ i → ⊥) → get_or (set stands i (Some track)) q None ≡ get_or stands q None
    others q d = get_or-set_other stands i q (Some track) None d

    pub line_added : NetLines job m' (set stands i (Some track))
    line_added = record {
      lined_at = λ q l.
          by_test (eqb q i)
          (λ t.
          let e : q ≡ i = eqb-true q i t in
          rw (lined, on_more m.lined k (get_or job.nets q no_net), stood q e, e, eq-eqb (get_or job.nets i no_net).number k numbered))
          (λ t.
          let d : q ≡ i → ⊥ = eqb-false q i t in
          rw (
            lined,
            on_more m.lined k (get_or job.nets q no_net),
            ne_eqb (get_or job.nets q no_net).number k (λ z. other_number i q h l d (z ∙ sym numbered)),
            others q d,
          )
          (old.lined_at q l));
      earlier_at = λ q l.
          by_test (eqb q i)
          (λ t.
          let e : q ≡ i = eqb-true q i t in
          let z : is_on m.earlier (get_or job.nets i no_net) ≡ false = old.earlier_at i h ∙ none_under m.track (get_or stands i None) new in
          rw (earlier, on, stood q e, e, z) (sym (le-ltb track.0 m.track (omega arith))))
          (λ t.
          let d : q ≡ i → ⊥ = eqb-false q i t in
          rw (earlier, on, others q d) (old.earlier_at q l));
      room = rw (length-set stands i (Some track)) old.room;
      to_track = λ q l.
          by_test (eqb q i)
          (λ t. rw (on, stood q (eqb-true q i t)) (omega arith))
          (λ t. rw (on, others q (eqb-false q i t)) (old.to_track q l));
    }

  -- ---- a net without a line

  -- no net has the number
  pub unlined_none : (m : Summary) (k : ℕ) → None ≡ position_numbered k job.nets → is_unlined job m.lined k ≡ false
  unfolding is_unlined
  unlined_none m k is = rw (no_number job.nets k (index_none job.nets k is))

  -- a net has it
  pub unlined_some : (m : Summary) (stands : List (Option Track)) → NetLines job m stands → (k index : ℕ) → Some index ≡ position_numbered k job.nets →
      is_unlined job m.lined k ≡ is_none (get_or stands index None)
  unfolding is_unlined is_on
  unlined_some m stands old k index is =
      let at = index_number job.nets k index is in
      let on : any_of (eqb k) m.lined ≡ is_some (get_or stands index None) = ap (λ (q : ℕ). any_of (eqb q) m.lined) (sym at.1) ∙ old.lined_at index at.0 in
      rw (some_number job.nets k index at.0 at.1, on)

  -- ---- the net that precedes

  module _ (m : Summary) (stands : List (Option Track)) (old : NetLines job m stands) where
    pub ready_same : (n : Net) (track : Track) → track.0 ≡ m.track → ready_at (before_in job.nets n) stands track ≡ is_ready job m.earlier n
    unfolding is_ready
    ready_same n track on = rw on (sym (all_on job a m.earlier (λ k. is_under m.track (get_or stands k None)) old.earlier_at n))

    -- ---- a wire drawn

    pub next_same : (words : List ℕ) (found : NetFound) (wired : Wired) (j : LinesAbove) → NetIs job found → MapOf job m.track words →
        j.track.0 ≡ m.track → j.lowest.0 ≡ m.lowest →
        is_next_at words stands found wired j ≡ is_next_wire job m (Some (placement_at found.net.net wired.shape wired.top.0))
    unfolding is_next_at is_allowed is_next_wire is_sound_place is_long is_short is_clear covered
    next_same words found wired j is blocks on low =
        let n = found.net.net in
        let top = wired.top.0 in
        let s = wired.shape in
        let rows : span n + 1 + extra s ≡ top + span n + extra s + 1 - top = omega arith in
        let lined : is_on m.lined n ≡ is_some (get_or stands found.index None) =
        ap (λ n. is_on m.lined n) (sym is.net_is) ∙ old.lined_at found.index is.index_range in
        rw (
          low,
          lined,
          is.before_is,
          ready_same n j.track on,
          rows,
          ← is.board_is,
          clear_same job m.track words blocks top (top + span n + extra s + 1 - top),
        )

-- a wire that may stand is of a net without a line above
pub next_new : (words : List ℕ) (stands : List (Option Track)) (found : NetFound) (wired : Wired) (j : LinesAbove) →
    is_next_at words stands found wired j ≡ true → is_some (get_or stands found.index None) ≡ false
unfolding is_next_at
next_new words stands found wired j t =
    let long = is_allowed found.net wired.shape in
    let clear = all_unset words wired.top.0 (covered found.net.net wired.shape) in
    let new = is_none (get_or stands found.index None) in
    let ready = ready_at found.before stands j.track in
    not-true (is_some (get_or stands found.index None))
    (and_split (long && clear) new (and_split (long && clear && new) ready (and_split (long && clear && new && ready) (ltb j.lowest.0 wired.top.0) t).0).0).1
