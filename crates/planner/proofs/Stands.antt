-- Where a net stands on tracks to which one more is added: a net with a wire on the new track stands there, every other as before.
-- Assumes nothing.
use Prim.Native.Nat.{ℕ, zero, suc, ◌+◌, ◌≤◌}
use mathlib.Core.Path.{◌≡◌, refl, sym, ap, ◌∙◌}
use mathlib.Core.Logic.{◌⊎◌, inl, inr, ⊎_elim}
use mathlib.Core.Bool.{false, not, true≢false}
use Rattle.std.specs.Prelude.{Option, None, Some}
use Rattle.board.specs.declared.Wired.{Wired}
use mathlib.Core.List.Memᴰ
use mathlib.Core.List.{List, [], ◌∷◌, ◌++◌, Memᴰ}
use native.Mathlib.Omega.{arith}
use native.Mathlib.Nat.{add-zero}
use lib.Dec.{eqb}
use lib.ListN.{length, get_or, take}
use lib.Seq.{take-append_seam, get_or-append_seam}
use borrow.Author.Tests.{eqb-true, eq-eqb}
use Rattle.lists.specs.Lists.{any_of}
use Rattle.lists.proofs.Cases.{by_test, by_option}
use Rattle.lists.proofs.Laws.{first_of_some, first_of_none}
use Rattle.board.specs.declared.Net.{Net}
use Rattle.board.specs.Placement.{Placement}
use Rattle.board.specs.Unbeaten.{FilledTrack, empty_track, numbers, numbers_on}
use Rattle.board.specs.Tests.{is_on}
use Rattle.board.proofs.ExactTests.{not_on, on_listed}
use Rattle.planner.specs.JobPlans.{wire_with, wired, stand_from}
use Rattle.std.specs.Option.{is_none}
use Rattle.planner.proofs.Marks.{wire_none}
use Rattle.std.proofs.lemmas.Option.{none-some}

-- a wire found by its number
pub record WireFound (k : ℕ) (ps : List Placement) (p : Placement) : Type 0 where
  pub listed : Memᴰ p ps
  pub number_is : p.net.number ≡ k

pub wire_found : (k : ℕ) (ps : List Placement) (p : Placement) → wire_with k ps ≡ Some p → WireFound k ps p
unfolding wire_with
wire_found k ps p h =
    let f = first_of_some (λ q. eqb q.net.number k) ps p h in
    record { listed = f.0; number_is = eqb-true p.net.number k f.1 }

pub wire_number : (k : ℕ) (ps : List Placement) (p : Placement) → wire_with k ps ≡ Some p → Memᴰ k (numbers ps)
wire_number k ps p h = let f = wire_found k ps p h in Memᴰ.cast (sym f.number_is) (Memᴰ.map (λ q. q.net.number) f.listed)

pub no_number : (k : ℕ) (ps : List Placement) → wire_with k ps ≡ None → Memᴰ k (numbers ps) → ⊥
unfolding wire_with
no_number k ps h m =
    let f = Memᴰ.of_map (λ q. q.net.number) ps m in
    let p = f.0 in
    true≢false (sym (eq-eqb p.net.number k f.2) ∙ first_of_none (λ q. eqb q.net.number k) ps p h f.1)

on_append : (xs ys : List ℕ) (n : Net) → is_on xs n ≡ false → is_on (xs ++ ys) n ≡ is_on ys n
unfolding is_on any_of
on_append [] ys n h = refl
on_append (x ∷ xs) ys n h =
    by_test (eqb n.number x)
    (λ e. absurd (true≢false (rw e at h)))
    (λ e. rw e (on_append xs ys n (rw e at h)))

-- the first track has a wire of the net, or not
pub stand_here : (t k : ℕ) (tr : FilledTrack) (trs : List FilledTrack) (p : Placement) → wire_with k tr.wires ≡ Some p → stand_from t (tr ∷ trs) k ≡ Some (wired t p)
unfolding stand_from
stand_here t k tr trs p e = rw (e, stand_from)

pub stand_later : (t k : ℕ) (tr : FilledTrack) (trs : List FilledTrack) → wire_with k tr.wires ≡ None → stand_from t (tr ∷ trs) k ≡ stand_from (suc t) trs k
unfolding stand_from
stand_later t k tr trs e = rw (e, stand_from)

stand_end : (t k : ℕ) → stand_from t [] k ≡ None
unfolding stand_from
stand_end t k = refl

-- a net that stands on none of the tracks is loose
pub stand_loose : (t k : ℕ) (trs : List FilledTrack) → (Memᴰ k (numbers_on trs) → ⊥) → stand_from t trs k ≡ None
unfolding numbers_on
stand_loose t k [] h = stand_end t k
stand_loose t k (tr ∷ trs) h =
    by_option (wire_with k tr.wires)
    (λ e. stand_later t k tr trs e ∙ stand_loose (suc t) k trs (λ m. h (Memᴰ.append_right (numbers tr.wires) m)))
    (λ p e. absurd (h (Memᴰ.append_left (numbers_on trs) (wire_number k tr.wires p e))))

-- one more track, without a wire of the net
pub stand_kept : (t k : ℕ) (trs : List FilledTrack) (tr : FilledTrack) → wire_with k tr.wires ≡ None → stand_from t (trs ++ (tr ∷ [])) k ≡ stand_from t trs k
stand_kept t k [] tr h = stand_later t k tr [] h ∙ stand_end (suc t) k ∙ sym (stand_end t k)
stand_kept t k (x ∷ xs) tr h =
    by_option (wire_with k x.wires)
    (λ e. stand_later t k x (xs ++ (tr ∷ [])) e ∙ stand_kept (suc t) k xs tr h ∙ sym (stand_later t k x xs e))
    (λ p e. stand_here t k x (xs ++ (tr ∷ [])) p e ∙ sym (stand_here t k x xs p e))

-- a net with a wire on the track at place i, and on none before, stands there
pub stand_at : (t k : ℕ) (trs : List FilledTrack) (i : ℕ) (p : Placement) → (Memᴰ k (numbers_on (take i trs)) → ⊥) →
    wire_with k (get_or trs i empty_track).wires ≡ Some p → stand_from t trs k ≡ Some (wired (t + i) p)
unfolding numbers_on
stand_at t k [] i p h e = absurd (none-some p (sym (wire_none k [] tt) ∙ e))
stand_at t k (x ∷ xs) zero p h e = rw (add-zero t) (stand_here t k x xs p e)
stand_at t k (x ∷ xs) (suc i) p h e =
    let s : suc t + i ≡ t + suc i = omega arith in
    by_option (wire_with k x.wires)
    (λ f. stand_later t k x xs f ∙ stand_at (suc t) k xs i p (λ m. h (Memᴰ.append_right (numbers x.wires) m)) e ∙ ap (λ u. Some (wired u p)) s)
    (λ q f. absurd (h (Memᴰ.append_left (numbers_on (take i xs)) (wire_number k x.wires q f))))

-- one more track, with a wire of the net, which stood nowhere
pub stand_new : (t k : ℕ) (trs : List FilledTrack) (tr : FilledTrack) (p : Placement) → (Memᴰ k (numbers_on trs) → ⊥) → wire_with k tr.wires ≡ Some p →
    stand_from t (trs ++ (tr ∷ [])) k ≡ Some (wired (t + length trs) p)
stand_new t k trs tr p h e =
    stand_at t k (trs ++ (tr ∷ [])) (length trs) p (rw (take-append_seam trs (tr ∷ [])) h) (rw (get_or-append_seam trs tr [] empty_track) e)

-- ---- the track of a net
-- the track of a net's wire, or 0 where it has none
abbrev pub track_of : Option Wired → ℕ
track_of None = 0
track_of (Some w) = w.track.0

pub track_from : (t k : ℕ) (trs : List FilledTrack) → (track_of (stand_from t trs k) ≡ 0) ⊎ (t ≤ track_of (stand_from t trs k))
track_from t k [] = inl (ap track_of (stand_end t k))
track_from t k (x ∷ xs) =
    by_option (wire_with k x.wires)
    (λ e. let q = ap track_of (stand_later t k x xs e) in ⊎_elim (λ z. inl (q ∙ z)) (λ l. inr (omega arith)) (track_from (suc t) k xs))
    (λ p e. let q = ap track_of (stand_here t k x xs p e) in inr (omega arith))

-- a net without a wire on the track at place i does not stand there
pub stand_other : (t k : ℕ) (trs : List FilledTrack) (i : ℕ) → 1 ≤ t → wire_with k (get_or trs i empty_track).wires ≡ None → track_of (stand_from t trs k) ≡ t + i → ⊥
stand_other t k [] i h e q = omega (arith, ap track_of (stand_end t k))
stand_other t k (x ∷ xs) zero h e q =
    ⊎_elim (λ z. omega (arith, ap track_of (stand_later t k x xs e))) (λ l. omega (arith, ap track_of (stand_later t k x xs e))) (track_from (suc t) k xs)
stand_other t k (x ∷ xs) (suc i) h e q =
    by_option (wire_with k x.wires)
    (λ f. stand_other (suc t) k xs i (omega arith) e (omega (arith, ap track_of (stand_later t k x xs f))))
    (λ p f. omega (arith, ap track_of (stand_here t k x xs p f)))

-- ---- the nets that stand on no track
pub on_stand : (t : ℕ) (n : Net) (trs : List FilledTrack) → is_none (stand_from t trs n.number) ≡ not (is_on (numbers_on trs) n)
unfolding numbers_on
on_stand t n [] = ap is_none (stand_end t n.number) ∙ sym (ap not (not_on [] n (λ m. Memᴰ.not-nil m)))
on_stand t n (x ∷ xs) =
    let k : ℕ = n.number in
    by_option (wire_with k x.wires)
    (λ e.
    ap is_none (stand_later t k x xs e) ∙ on_stand (suc t) n xs ∙
    ap not (sym (on_append (numbers x.wires) (numbers_on xs) n (not_on (numbers x.wires) n (no_number k x.wires e)))))
    (λ p e.
    ap is_none (stand_here t k x xs p e) ∙
    sym (ap not (on_listed (numbers x.wires ++ numbers_on xs) n (Memᴰ.append_left (numbers_on xs) (wire_number k x.wires p e)))))
