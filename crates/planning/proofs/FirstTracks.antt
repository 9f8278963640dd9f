-- The plan of a job by its first tracks: track t + 1 is filled with the nets of tracks 1 to t held. Assumes nothing.
use Prim.Native.Nat.{ℕ, zero, suc, ◌+◌, ◌≤◌, ◌<◌}
use mathlib.Core.Path.{◌≡◌, refl, ap, ◌∙◌}
use mathlib.Core.List.{List, [], ◌∷◌, ◌++◌, append_assoc, append-nil}
use native.Mathlib.Omega.{arith}
use native.Mathlib.Nat.{add-zero}
use lib.ListN.{length, get_or, take}
use lib.Seq.{take-suc, length-take-le, take_all}
use Rattle.board.specs.Job.{Job}
use Rattle.board.specs.Unbeaten.{FilledTrack, empty_track, numbers, numbers_on}
use Rattle.planning.specs.Plan.{filled_track, plan_from, plan_of}

module _ (job : Job) where
  from_length : (k t : ℕ) (earlier : List ℕ) → length (plan_from job k t earlier) ≡ k
  unfolding plan_from
  from_length zero t earlier = refl
  from_length (suc k) t earlier = ap suc (from_length k _ _)

  from_at : (k t : ℕ) (earlier : List ℕ) (i : ℕ) (d : FilledTrack) → i < k →
      get_or (plan_from job k t earlier) i d ≡ filled_track job (earlier ++ numbers_on (take i (plan_from job k t earlier))) (t + i)
  unfolding plan_from numbers_on
  from_at zero t earlier i d h = absurd (omega arith)
  from_at (suc k) t earlier zero d h = rw (append-nil, add-zero t)
  from_at (suc k) t earlier (suc i) d h =
      let ws = (filled_track job earlier t).wires in
      let e : suc t + i ≡ t + suc i = omega arith in
      rw (append_assoc earlier (numbers ws), e) at (from_at k (suc t) (earlier ++ numbers ws) i d (omega arith))

  pub plan_length : length (plan_of job) ≡ job.board.tracks
  unfolding plan_of
  plan_length = from_length job.board.tracks 1 []

  pub plan_at : (t : ℕ) (d : FilledTrack) → t < job.board.tracks → get_or (plan_of job) t d ≡ filled_track job (numbers_on (take t (plan_of job))) (suc t)
  unfolding plan_of
  plan_at t d h = let e : 1 + t ≡ suc t = omega arith in rw e at (from_at job.board.tracks 1 [] t d h)

  pub first_length : (t : ℕ) → t ≤ job.board.tracks → length (take t (plan_of job)) ≡ t
  first_length t h = length-take-le t (plan_of job) (omega (arith, plan_length))

  pub first_all : take job.board.tracks (plan_of job) ≡ plan_of job
  first_all = take_all job.board.tracks (plan_of job) (omega (arith, plan_length))

  pub first_next : (t : ℕ) → t < job.board.tracks →
      take (suc t) (plan_of job) ≡ take t (plan_of job) ++ (filled_track job (numbers_on (take t (plan_of job))) (suc t) ∷ [])
  first_next t h = take-suc (plan_of job) t empty_track (omega (arith, plan_length)) ∙ ap (λ x. take t (plan_of job) ++ (x ∷ [])) (plan_at t empty_track h)
