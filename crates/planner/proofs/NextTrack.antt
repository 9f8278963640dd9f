-- What planning the next track needs: the candidates gathered are those with the nets of the earlier tracks held, and the first and the
-- last track begin and end the plan. Assumes nothing.
use Prim.Native.Nat.{ℕ, zero, suc, ◌-◌, ◌≤◌}
use mathlib.Core.Path.{◌≡◌, refl, sym, ap, ap₂, ◌∙◌}
use mathlib.Core.Bool.{not, not-not}
use mathlib.Core.List.{List, [], ◌∷◌, ◌++◌, map}
use native.Mathlib.Omega.{arith}
use lib.ListN.{length, get_or, replicate, length-map, get_or-append}
use Rattle.board.specs.declared.Net.{Net}
use Rattle.board.specs.Job.{Job}
use Rattle.std.specs.Prelude.{None}
use Rattle.std.specs.Option.{is_some}
use Rattle.std.proofs.lemmas.List.{get_or-map}
use Rattle.board.specs.Stored.{no_net}
use Rattle.board.specs.Unbeaten.{FilledTrack, numbers_on}
use Rattle.board.specs.Tests.{is_on}
use Rattle.board.specs.Accepted.{AcceptedJob}
use Rattle.candidates.specs.declared.Candidate.{Candidate}
use Rattle.candidates.specs.SlotArrays.{Candidates}
use Rattle.candidates.specs.Placed.{Placed}
use Rattle.candidates.specs.Gathered.{Gathered, GatheredFrom}
use Rattle.planner.specs.declared.JobPlan.{JobPlan}
use Rattle.planner.specs.JobPlans.{stand_from, net_plan_of, stored_plan, job_plan_of}
use Rattle.planner.specs.Progressed.{first_tracks, on_first, progress_to, OnTurn}
use Rattle.planner.proofs.Stands.{on_stand}
use Rattle.planning.proofs.FirstTracks.{first_all}

-- ---- lists
-- one value for each net, and the same behind them
map_padded : {B : Type 0} (f : Net → B) (x : B) (ns : List Net) (room : ℕ) → ((n : Net) → f n ≡ x) → length ns ≤ room →
    map f ns ++ replicate (room - length ns) x ≡ replicate room x
map_padded f x [] room h l = let e : room - 0 ≡ room = omega arith in ap (λ k. replicate k x) e
map_padded f x (n ∷ ns) zero h l = absurd (omega arith)
map_padded f x (n ∷ ns) (suc room) h l =
    let e : suc room - suc (length ns) ≡ room - length ns = omega arith in
    ap₂ (λ y k. y ∷ (map f ns ++ replicate k x)) (h n) e ∙ ap (λ l. x ∷ l) (map_padded f x ns room h (omega arith))

-- ---- the nets that stand on the first tracks have a wire by value
pub placed_first : (job : Job) (t : ℕ) → Placed job (progress_to job t).nets (on_first job t)
unfolding stored_plan
placed_first job t =
    let trs : List FilledTrack = first_tracks job t in
    record {
      each = λ k h.
          let n : Net = get_or job.nets k no_net in
          let at : get_or (progress_to job t).nets k None ≡ stand_from 1 trs n.number =
          get_or-append (map (net_plan_of trs) job.nets) _ None k (omega (arith, length-map job.nets (net_plan_of trs))) ∙
          get_or-map (net_plan_of trs) job.nets k no_net None h in
          sym (ap is_some at ∙ sym (not-not (is_some (stand_from 1 trs n.number))) ∙ ap not (on_stand 1 n trs) ∙ not-not (is_on (numbers_on trs) n));
    }

pub gathered_first : (job : Job) (t : ℕ) (p : JobPlan) (old : List Candidate) (before after : List ℕ) (c : Candidates) → OnTurn job t p →
    GatheredFrom job p.nets t old before c after → Gathered job (on_first job (t - 1)) t c after
gathered_first job t p old before after c o g =
    g.gathered (on_first job (t - 1)) (rw o.so_far (placed_first job (t - 1)))

-- ---- before track 1 nothing is planned
pub none_planned : (job : Job) → AcceptedJob job → record { nets = replicate 512 None; sums = replicate 128 0 } ≡ progress_to job 0
unfolding stored_plan stand_from
none_planned job a =
    let nets = map_padded (net_plan_of []) None job.nets 512 (λ n. refl) a.nets_count in
    λ i. record { nets = sym nets i; sums = replicate 128 0 }

-- after track K the job is planned
pub all_planned : (job : Job) → progress_to job job.board.tracks ≡ job_plan_of job
unfolding job_plan_of
all_planned job = ap (stored_plan job) (first_all job)
