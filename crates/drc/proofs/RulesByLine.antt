-- The rules over the tree of a layout in the order of its lines, each line against those above it; the verdict on a tree that keeps them is
-- sound. Assumes nothing.
use Prim.Native.Nat.{ℕ, suc, ◌+◌, ◌≤◌}
use mathlib.Core.Path.{◌≡◌, refl}
use mathlib.Core.Bool.{Bool, true, not, ◌||◌, or-true}
use Rattle.std.specs.Prelude.{Option, Some}
use mathlib.Core.List.{List, [], ◌∷◌, ◌++◌, Memᴰ, append_assoc, append-nil}
use native.Mathlib.Omega.{arith}
use lib.Dec.{eqb}
use lib.ListN.{length}
use borrow.Author.Tests.{eq-eqb}
use Rattle.lists.proofs.Cases.{and_both}
use Rattle.lists.proofs.Laws.{all_of_of}
use Rattle.board.specs.declared.Net.{Net}
use Rattle.board.specs.Job.{Job}
use Rattle.board.specs.Tests.{is_on}
use Rattle.board.proofs.ExactTests.{on_listed}
use Rattle.layout.specs.Tree.{Wire, DrawnTrack, Line, opens, track, wire, loose, closes}
use Rattle.layout.specs.LayoutText.{wires_then, tracks_then, loose_then}
use Rattle.sound.specs.Wires.{weight_of, sum_over, wire_numbers, track_numbers, wires_sum}
use Rattle.drc.specs.Standing.{Above, before_layout, in_layout, with_line, numbers_above, CanStand, opening_first, track_in_turn, wire_under_track, loose_behind_tracks, closing_behind_tracks}
use Rattle.drc.specs.Judge.{ends_track, is_in_place, is_true_sum, keeps_rules, sound_text, at_text_end, judge_from}
use Rattle.drc.proofs.Lines.{of_form}
use Rattle.drc.proofs.InPlace.{in_place_of}
use Rattle.drc.proofs.WireRule.{WireKept, kept_wire}
use Rattle.drc.proofs.LooseRule.{LooseKept, kept_loose}

-- the loose lines of a layout, and its last line
abbrev pub end_lines : List ℕ → List Line
end_lines ks = loose_then ks (closes ∷ [])

module _ (job : Job) where
  -- ---- the rules, line by line

  -- the wires vs under track line t, where the wires ws stand above them and those with the numbers `earlier` on earlier tracks
  abbrev pub KeptWires : ℕ → List ℕ → List Wire → List Wire → Type 0
  KeptWires t earlier ws [] = Unit {0}
  KeptWires t earlier ws (v ∷ vs) = WireKept job t earlier ws v × KeptWires t earlier (ws ++ (v ∷ [])) vs

  -- the tracks behind track t
  abbrev pub KeptTracks : ℕ → List ℕ → List DrawnTrack → Type 0
  KeptTracks t earlier [] = t ≡ job.board.tracks
  KeptTracks t earlier (tr ∷ trs) =
      (tr.track ≡ suc t) × (wires_sum job tr.wires ≡ tr.sum) × KeptWires (suc t) earlier [] tr.wires ×
      KeptTracks (suc t) (earlier ++ wire_numbers tr.wires) trs

  -- the loose lines ks behind those with the numbers ns
  abbrev pub KeptLoose : List ℕ → List ℕ → List ℕ → Type 0
  KeptLoose wired ns [] = Unit {0}
  KeptLoose wired ns (k ∷ ks) = LooseKept job wired ns k × KeptLoose wired (ns ++ (k ∷ [])) ks

  -- no net is missing
  abbrev pub NoneMissing : List ℕ → Type 0
  NoneMissing on = (n : Net) → Memᴰ n job.nets → Memᴰ n.number on

  pub tracks_count : (t : ℕ) (earlier : List ℕ) (trs : List DrawnTrack) → KeptTracks t earlier trs → t + length trs ≡ job.board.tracks
  tracks_count t earlier [] k = omega (arith, k)
  tracks_count t earlier (tr ∷ trs) k = omega (arith, tracks_count (suc t) (earlier ++ wire_numbers tr.wires) trs k.3)

  -- ---- a step of the verdict

  step : (n : ℕ) (a : Above) (x : Line) (ls : List (Option Line)) → CanStand job a x → keeps_rules job a x ls ≡ true →
      judge_from job (suc n) (with_line a x) ls ≡ sound_text → judge_from job n a (Some x ∷ ls) ≡ sound_text
  unfolding judge_from
  step n a x ls s k h = rw (and_both (is_in_place job a x) (keeps_rules job a x ls) (in_place_of job s) k) h

  -- ---- a tree that keeps the rules is called sound

  sum_ended : (s sum : ℕ) (x : Bool) → sum ≡ s → (x || eqb sum s) ≡ true
  sum_ended s sum x e = rw (eq-eqb sum s e) (or-true x)

  sum_kept : (t s sum : ℕ) (vs : List Wire) (trs : List DrawnTrack) (ks : List ℕ) → sum + wires_sum job vs ≡ s →
      is_true_sum job t s sum (of_form (wires_then vs (tracks_then trs (end_lines ks)))) ≡ true
  unfolding is_true_sum wires_then tracks_then loose_then wires_sum sum_over
  sum_kept t s sum (v ∷ vs) trs ks e = sum_kept t s (sum + weight_of job v.number) vs trs ks (omega (arith, e))
  sum_kept t s sum [] (tr ∷ trs) ks e = sum_ended s sum (not (ends_track job t (track tr.track tr.sum))) (omega (arith, e))
  sum_kept t s sum [] [] (k ∷ ks) e = sum_ended s sum (not (ends_track job t (loose k))) (omega (arith, e))
  sum_kept t s sum [] [] [] e = sum_ended s sum (not (ends_track job t closes)) (omega (arith, e))

  wires_pass : (t : ℕ) (earlier : List ℕ) (rest : List Line) → 1 ≤ t → t ≤ job.board.tracks → (n : ℕ) (ws vs : List Wire) → KeptWires t earlier ws vs →
      ((m : ℕ) → judge_from job m (in_layout t earlier (ws ++ vs) []) (of_form rest) ≡ sound_text) →
      judge_from job n (in_layout t earlier ws []) (of_form (wires_then vs rest)) ≡ sound_text
  unfolding wires_then keeps_rules with_line
  wires_pass t earlier rest o b n ws [] k f = rw (append-nil ws) at (f n)
  wires_pass t earlier rest o b n ws (v ∷ vs) k f =
      step n (in_layout t earlier ws []) (wire v) (of_form (wires_then vs rest))
      (wire_under_track o b)
      (kept_wire job t earlier ws v k.0)
      (wires_pass t earlier rest o b (suc n) (ws ++ (v ∷ [])) vs k.1 (λ m. rw (append_assoc ws (v ∷ []) vs) (f m)))

  loose_pass : (n t : ℕ) (earlier : List ℕ) (ws : List Wire) (ns ks : List ℕ) → t ≡ job.board.tracks → KeptLoose (earlier ++ wire_numbers ws) ns ks →
      NoneMissing ((earlier ++ wire_numbers ws) ++ (ns ++ ks)) → judge_from job n (in_layout t earlier ws ns) (of_form (end_lines ks)) ≡ sound_text
  unfolding loose_then keeps_rules with_line judge_from at_text_end
  loose_pass n t earlier ws ns [] e k c =
      step n (in_layout t earlier ws ns) closes []
      (closing_behind_tracks e)
      (all_of_of (is_on (numbers_above earlier ws ns)) job.nets (λ i j. on_listed (numbers_above earlier ws ns) i (rw (append-nil ns) at (c i j))))
      refl
  loose_pass n t earlier ws ns (j ∷ ks) e k c =
      step n (in_layout t earlier ws ns) (loose j) (of_form (end_lines ks))
      (loose_behind_tracks e)
      (kept_loose job (earlier ++ wire_numbers ws) ns j k.0)
      (loose_pass (suc n) t earlier ws (ns ++ (j ∷ [])) ks e k.1 (rw (append_assoc ns (j ∷ []) ks) c))

  tracks_pass : (n t : ℕ) (earlier : List ℕ) (ws : List Wire) (trs : List DrawnTrack) (ks : List ℕ) →
      KeptTracks t (earlier ++ wire_numbers ws) trs → KeptLoose ((earlier ++ wire_numbers ws) ++ track_numbers trs) [] ks →
      NoneMissing (((earlier ++ wire_numbers ws) ++ track_numbers trs) ++ ks) →
      judge_from job n (in_layout t earlier ws []) (of_form (tracks_then trs (end_lines ks))) ≡ sound_text
  unfolding tracks_then track_numbers keeps_rules with_line
  tracks_pass n t earlier ws [] ks k l c =
      loose_pass n t earlier ws [] ks k (rw (append-nil (earlier ++ wire_numbers ws)) at l) (rw (append-nil (earlier ++ wire_numbers ws)) at c)
  tracks_pass n t earlier ws (tr ∷ trs) ks k l c =
      let on = earlier ++ wire_numbers ws in
      let e = append_assoc on (wire_numbers tr.wires) (track_numbers trs) in
      let count = tracks_count (suc t) (on ++ wire_numbers tr.wires) trs k.3 in
      step n (in_layout t earlier ws []) (track tr.track tr.sum) (of_form (wires_then tr.wires (tracks_then trs (end_lines ks))))
      (track_in_turn k.0 (omega (arith, k.0)))
      (sum_kept tr.track tr.sum 0 tr.wires trs ks (omega (arith, k.1)))
      (rw k.0
      (wires_pass (suc t) on (tracks_then trs (end_lines ks)) (omega arith) (omega arith) (suc n) [] tr.wires k.2
      (λ m. tracks_pass m (suc t) on tr.wires trs ks k.3 (rw e l) (rw e c))))

  pub tree_sound : (trs : List DrawnTrack) (ks : List ℕ) → KeptTracks 0 [] trs → KeptLoose (track_numbers trs) [] ks → NoneMissing (track_numbers trs ++ ks) →
      judge_from job 1 before_layout (of_form (opens ∷ tracks_then trs (end_lines ks))) ≡ sound_text
  unfolding keeps_rules with_line
  tree_sound trs ks k l c = step 1 before_layout opens (of_form (tracks_then trs (end_lines ks))) opening_first refl (tracks_pass 2 0 [] [] trs ks k l c)
