-- What is kept behind a wire, by value, is what the pass keeps behind it: one that draws its net, and one that draws no placement of it.
-- Assumes nothing.
use Prim.Native.Nat.{ℕ, ◌+◌, ◌-◌}
use mathlib.Core.Path.{◌≡◌, refl, sym, ap, ap₂, ◌∙◌}
use mathlib.Core.Bool.{Bool, true, false, false≢true}
use Rattle.std.specs.Prelude.{Option, None, Some}
use mathlib.Core.List.{List}
use native.Mathlib.Omega.{arith}
use lib.ListN.{set}
use Rattle.board.specs.declared.Track.{Track}
use Rattle.board.specs.declared.Wired.{Wired}
use Rattle.board.specs.Job.{Job}
use Rattle.board.specs.Length.{span, extra}
use Rattle.board.specs.Weight.{weight}
use Rattle.board.specs.Placement.{Placement, placement_at, covered}
use Rattle.board.specs.Accepted.{AcceptedJob}
use Rattle.layout.specs.Tree.{Wire}
use Rattle.sound.specs.Wires.{weight_of}
use Rattle.drc.specs.Pass.{Summary, add_wire, is_next_wire, lowest_of, breach_after}
use Rattle.judging.specs.declared.LinesAbove.{LinesAbove}
use Rattle.judging.specs.declared.found.NetFound.{NetFound}
use Rattle.judging.specs.Judged.{KeepsSummary}
use Rattle.judging.specs.Values.{remaining_of, remaining_after, is_next_at, NetIs, MapOf}
use Rattle.judging.proofs.Remaining.{remaining_more}
use Rattle.judging.proofs.Rows.{lowest_row}
use Rattle.judging.proofs.Indexes.{found_weight}
use Rattle.judging.proofs.LinesAdded.{line_added, next_same, next_new}

-- a wire that passes and one that does not, where the same is asked while none is broken
breach_same : (o : Option ℕ) (n : ℕ) (passed asked : Bool) → (o ≡ None → passed ≡ asked) → breach_after o n asked ≡ breach_after o n passed
unfolding breach_after
breach_same None n passed asked same = rw (same refl)
breach_same (Some l) n passed asked same = refl

-- no wire is broken behind one more
no_breach : (o : Option ℕ) (n : ℕ) (passed : Bool) → breach_after o n passed ≡ None → (o ≡ None) × (passed ≡ true)
unfolding breach_after
no_breach None n true e = (refl, refl)
no_breach None n false e = let z : ◌≡◌ {A = ℕ} 0 1 = cc in absurd (omega arith)
no_breach (Some l) n passed e = let z : ◌≡◌ {A = ℕ} 0 1 = cc in absurd (omega arith)

module _ (job : Job) (n : ℕ) (s : Summary) (w : Wire) (j : LinesAbove) where
  -- behind a wire line
  abbrev behind_wire : ℕ → ℕ → Option ℕ → LinesAbove
  behind_wire more lowest breach = record {
    track = j.track;
    line = j.line;
    remaining = remaining_after j.remaining more;
    lowest = record { 0 = lowest };
    last = j.last;
    breach = breach;
  }

  -- what remains of the sum behind it
  remains : (before : List (Option Track)) (more : ℕ) → weight_of job w.number ≡ more → KeepsSummary job s j before →
      remaining_of s.printed (s.sum + weight_of job w.number) ≡ remaining_after j.remaining more
  remains before more v h = sym (remaining_more s.printed s.sum (weight_of job w.number)) ∙ ap₂ remaining_after h.remaining_is v

  -- that draws no placement of its net
  pub undrawn_added : (before after : List (Option Track)) (more : ℕ) → weight_of job w.number ≡ more → KeepsSummary job s j before →
      KeepsSummary job (add_wire job n w None s) (behind_wire more j.lowest.0 (breach_after j.breach n false)) after
  unfolding is_next_wire lowest_of
  undrawn_added before after more v h =
      record {
        track_is = h.track_is;
        line_is = h.line_is;
        remaining_is = remains before more v h;
        lowest_is = h.lowest_is;
        last_is = h.last_is;
        breach_is = ap (λ (f : Option ℕ). breach_after f n false) h.breach_is;
        lines_are = λ z. absurd (false≢true (no_breach j.breach n false z).1);
      }

  module _ (a : AcceptedJob job) (found : NetFound) (wired : Wired) (is : NetIs job found) (numbered : found.net.net.number ≡ w.number) (words : List ℕ) (stands : List (Option Track))
      (blocks : MapOf job j.track.0 words) where
    abbrev next : Bool
    next = is_next_at words stands found wired j

    -- the placement that is drawn
    abbrev placed : Placement
    placed = placement_at found.net.net wired.shape wired.top.0

    -- that draws its net
    drawn_added : KeepsSummary job s j stands →
        KeepsSummary job (add_wire job n w (Some placed) s)
        (behind_wire (weight found.net.net) (wired.top.0 + span found.net.net + extra wired.shape) (breach_after j.breach n next))
        (set stands found.index (Some j.track))
    unfolding lowest_of
    drawn_added h =
        let on : j.track.0 ≡ s.track = sym h.track_is in
        record {
          track_is = h.track_is;
          line_is = h.line_is;
          remaining_is = remains stands (weight found.net.net) (found_weight job found is a w.number numbered) h;
          lowest_is = refl;
          last_is = h.last_is;
          breach_is =
              ap (λ (f : Option ℕ). breach_after f n (is_next_wire job s (Some placed))) h.breach_is ∙
              (breach_same j.breach n next (is_next_wire job s (Some placed))
              (λ z. next_same job a s stands (h.lines_are z) words found wired j is (rw on at blocks) on (sym h.lowest_is)));
          lines_are = λ z.
              let p = no_breach j.breach n next z in
              line_added job a s (add_wire job n w (Some placed) s) stands found.index w.number j.track refl refl refl h.track_is
              is.index_range (ap (λ q. q.number) is.net_is ∙ numbered) (next_new words stands found wired j p.1) (h.lines_are p.0);
        }

    -- the same of what the code works out
    pub drawn_kept : (lowest : ℕ) (breach : Option ℕ) → lowest ≡ wired.top.0 + covered found.net.net wired.shape - 1 →
        breach ≡ breach_after j.breach n next → KeepsSummary job s j stands →
        KeepsSummary job (add_wire job n w (Some placed) s) (behind_wire (weight found.net.net) lowest breach) (set stands found.index (Some j.track))
    drawn_kept lowest breach f g h = rw (f ∙ lowest_row wired.top.0 found.net.net wired.shape, g) (drawn_added h)
