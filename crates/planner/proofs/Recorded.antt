-- One more track recorded: with the wires of track t + 1 stored over what is planned after track t, it is what is planned after
-- track t + 1. Assumes nothing.
use Prim.Native.Nat.{ℕ, suc, ◌+◌, ◌-◌, ◌<◌}
use mathlib.Core.Path.{◌≡◌, refl, sym, ap, ◌∙◌}
use Rattle.std.specs.Prelude.{Option, None, Some}
use mathlib.Core.List.{List, [], ◌∷◌, ◌++◌, map, Memᴰ}
use native.Mathlib.Omega.{arith}
use lib.ListN.{length, set, replicate}
use Rattle.lists.specs.Lists.{Each, EachPair}
use Rattle.lists.proofs.Cases.{by_option}
use Rattle.lists.proofs.Laws.{Each-map, Each-at}
use Rattle.lists.proofs.Joins.{EachPair-both}
use Rattle.lists.proofs.Places.{map_same}
use Rattle.board.specs.declared.Net.{Net}
use Rattle.board.specs.Job.{Job}
use Rattle.board.specs.Placement.{Placement}
use Rattle.board.specs.Rival.{Placeable, Rival}
use Rattle.board.specs.Unbeaten.{FilledTrack}
use Rattle.board.specs.Accepted.{AcceptedJob}
use Rattle.board.proofs.SameNumber.{same_number}
use Rattle.packing.specs.Best.{best}
use Rattle.packing.specs.Walk.{wires_of}
use Rattle.planning.specs.Plan.{filled_track}
use Rattle.planning.proofs.PlanUnbeaten.{all_allowed, track_optimal}
use Rattle.planning.proofs.Balance.{once}
use Rattle.board.specs.declared.Wired.{Wired}
use Rattle.planner.specs.JobPlans.{wire_with, wired, stand_from, stored_plan}
use Rattle.planner.specs.Progressed.{first_tracks, on_first, progress_to}
use Rattle.planner.proofs.ChoiceRows.{IndexOf, place, index_of_lem}
use Rattle.planner.proofs.Marks.{marked, with_wires, marked_all}
use Rattle.planner.proofs.Stands.{wire_found, stand_kept, stand_new}
use Rattle.planning.proofs.FirstTracks.{first_length, first_next}

-- the sum of one more track
sums_put : (trs : List FilledTrack) (tr : FilledTrack) (room : ℕ) →
    set (map (λ x. x.sum) trs ++ replicate (suc room) 0) (length trs) tr.sum ≡ map (λ x. x.sum) (trs ++ (tr ∷ [])) ++ replicate room 0
sums_put [] tr room = refl
sums_put (x ∷ xs) tr room = ap (λ l. x.sum ∷ l) (sums_put xs tr room)

module _ (job : Job) (a : AcceptedJob job) where
  -- the wires of a track: a rival sequence, of nets that differ and stand on no earlier track
  module _ (earlier : List ℕ) (t : ℕ) where
    abbrev ws : List Placement
    ws = wires_of job earlier t

    pub wires_rival : Rival job earlier t ws
    unfolding filled_track
    wires_rival = (track_optimal job (all_allowed job a) earlier t).rival

    pub wires_indexed : Each (λ p. IndexOf job.nets p.net (place job p.net)) ws
    wires_indexed = Each-map ws (λ p v. (index_of_lem job p.net a.numbers_rise v.of_job).1) wires_rival.placeable

    pub wires_differ : EachPair (λ p q. p.net.number ≡ q.net.number → ⊥) ws
    wires_differ =
        EachPair-both ws
        (λ p q v w r e. once job p q v.legal w.legal r (same_number job.nets a.numbers_rise p.net q.net v.of_job w.of_job e))
        wires_rival.placeable wires_rival.apart

    pub tops_differ : EachPair (λ p q. p.top ≡ q.top → ⊥) ws
    tops_differ = EachPair-both ws (λ p q _ _ l (e : p.top ≡ q.top). omega arith) wires_rival.placeable wires_rival.rising

    pub wires_fresh : (k : ℕ) (p : Placement) → wire_with k ws ≡ Some p → Memᴰ k earlier → ⊥
    wires_fresh k p e m =
        let f = wire_found k ws p e in
        let v = Each-at (Placeable job earlier t) ws p wires_rival.placeable f.listed in
        v.eligible.fresh (rw f.number_is m)

  module _ (t : ℕ) (h : t < job.board.tracks) where
    abbrev trs : List FilledTrack
    trs = first_tracks job t

    abbrev new : FilledTrack
    new = filled_track job (on_first job t) (suc t)

    abbrev wires : List Placement
    wires = wires_of job (on_first job t) (suc t)

    next_stand : (n : Net) → with_wires (λ p. Some (wired (suc t) p)) wires (λ m. stand_from 1 trs m.number) n ≡ stand_from 1 (trs ++ (new ∷ [])) n.number
    unfolding filled_track
    next_stand n =
        by_option (wire_with n.number wires)
        (λ e. rw e (sym (stand_kept 1 n.number trs new e)))
        (λ p e.
        let l : 1 + length trs ≡ suc t = omega (arith, first_length job t (omega arith)) in
        rw e (sym (stand_new 1 n.number trs new p (wires_fresh (on_first job t) (suc t) n.number p e) e ∙ ap (λ u. Some (wired u p)) l)))

    pub nets_next : marked (place job) (λ p. Some (wired (suc t) p)) wires (progress_to job t).nets ≡ (progress_to job (suc t)).nets
    unfolding stored_plan
    nets_next =
        let rest : List (Option Wired) = replicate (512 - length job.nets) None in
        marked_all (place job) (λ p. Some (wired (suc t) p)) job.nets a.numbers_rise rest wires (λ n. stand_from 1 trs n.number)
        (wires_indexed (on_first job t) (suc t)) (wires_differ (on_first job t) (suc t)) ∙
        ap (λ l. l ++ rest) (map_same _ _ job.nets (λ n _. next_stand n ∙ ap (λ l. stand_from 1 l n.number) (sym (first_next job t h))))

    pub sums_next : set (progress_to job t).sums t (best job (on_first job t) (suc t) 1) ≡ (progress_to job (suc t)).sums
    unfolding stored_plan filled_track
    sums_next =
        let n = first_length job t (omega arith) in
        let n' = first_length job (suc t) (omega arith) in
        let b = a.board_range in
        let e : 128 - length trs ≡ suc (128 - suc t) = omega arith in
        let s = sums_put trs new (128 - suc t) in
        rw (n', first_next job t h, e) (rw n at s)
