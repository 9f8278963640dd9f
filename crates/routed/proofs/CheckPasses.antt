-- Demand 2, "passes ours", of the two operations: the check passes the bytes that route writes into a buffer, for every job file and every
-- buffer. Assumes nothing.
use Rattle.std.specs.Prelude.{Result, Ok, Err}
use Prim.Native.Nat.{ℕ}
use mathlib.Core.Path.{◌≡◌, refl}
use mathlib.Core.List.{List}
use lib.Dec.{leb}
use lib.ListN.{length, take, drop}
use lib.Seq.{take-append_seam}
use borrow.Author.Tests.{le-leb}
use Rattle.lists.proofs.Cases.{by_test}
use Rattle.board.specs.Job.{Job}
use Rattle.jobfile.specs.Read.{Read, accepted, refused, read_job}
use Rattle.jobfile.proofs.Accepts.{read_accepted}
use Rattle.routing.specs.Route.{route_text}
use Rattle.routing.proofs.RouteUnbeaten.{route_length}
use Rattle.answers.specs.declared.TextRefusal.{TextRefusal}
use Rattle.answers.specs.declared.TextRefusal.TheVariants.{TooSmall}
use Rattle.answers.specs.Answers.{answer_for, buffer_for, text_answer, buffer_after}
use Rattle.checker.specs.Answers.{verdict_answer, check_answer}
use Rattle.routed.proofs.RouteJudged.{route_judged}

module _ (text : List ℕ) where
  -- the text that route writes for an accepted job file
  pub check_passes_text : (job : Job) → read_job text ≡ accepted job → check_answer (read_job text) (route_text job) ≡ Ok tt
  unfolding check_answer verdict_answer
  check_passes_text job e =
      let a = read_accepted text job e in
      rw (e, le-leb (length (route_text job)) 64000 (route_length job a), route_judged job a)

  module _ (before : List ℕ) (n : ℕ) where
    written_passes : (y : Read) → read_job text ≡ y → text_answer route_text y (length before) ≡ Ok n → check_answer y (take n (buffer_after route_text y before)) ≡ Ok tt
    unfolding text_answer buffer_after answer_for buffer_for
    written_passes (refused o) e r = cc
    written_passes (accepted job) e r =
        let written = route_text job in
        by_test (leb (length written) (length before))
        (λ t.
        let q : ◌≡◌ {A = Result ℕ TextRefusal} (Ok (length written)) (Ok n) = rw t at r in
        let i : length written ≡ n = cc in
        rw (t, ← i, take-append_seam written (drop (length written) before)) (rw e at (check_passes_text job e)))
        (λ t. let q : ◌≡◌ {A = Result ℕ TextRefusal} (Err (TooSmall (length written))) (Ok n) = rw t at r in cc)

    -- where route answers with a length, the check passes that many bytes of the buffer afterwards
    pub check_passes_route : text_answer route_text (read_job text) (length before) ≡ Ok n → check_answer (read_job text) (take n (buffer_after route_text (read_job text) before)) ≡ Ok tt
    check_passes_route r = written_passes (read_job text) refl r
