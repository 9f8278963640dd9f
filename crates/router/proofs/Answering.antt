-- What route promises, from its answer and its buffer by equation; and the text that is drawn is the one that route writes. Assumes nothing.
use Rattle.std.specs.Prelude.{Result}
use Prim.Native.Nat.{ℕ, ◌≤◌}
use mathlib.Core.Path.{◌≡◌, refl, ap, ◌∙◌}
use mathlib.Core.List.{List}
use lib.ListN.{length, take}
use Rattle.board.specs.Job.{Job}
use Rattle.board.specs.Accepted.{AcceptedJob}
use Rattle.text.specs.Written.{Written}
use Rattle.text.proofs.Writing.{start_written}
use Rattle.jobfile.specs.Read.{read_job}
use Rattle.planning.specs.Plan.{plan_of}
use Rattle.sound.specs.Sound.{Sound}
use Rattle.routing.specs.Promises.{ShortestText, UnbeatenText}
use Rattle.routing.specs.Route.{route_text}
use Rattle.routing.proofs.RouteUnbeaten.{route_length, route_demanded}
use Rattle.planner.specs.declared.JobPlan.{JobPlan}
use Rattle.planner.specs.JobPlans.{job_plan_of}
use Rattle.drawer.specs.PlanText.{plan_text, DrawablePlan}
use Rattle.drawer.proofs.PlanDrawable.{plan_is_route, plan_drawable}
use Rattle.answers.specs.declared.TextRefusal.{TextRefusal}
use Rattle.answers.specs.Answers.{answer_values, document_values, text_answer, RightFor, buffer_after, OfWritten}
use Rattle.answers.proofs.Answering.{Given, values_given, right_given, held_given}
use Rattle.router.specs.LayoutLength.{LayoutLength}

-- all that route promises of its answer and of the buffer afterwards
abbrev pub Promised : List ℕ → List ℕ → Result ℕ TextRefusal → List ℕ → Type 0
Promised file before r after =
    record {
      answer : r ≡ text_answer route_text (read_job file) (length before);
      values : answer_values r ≡ document_values route_text (read_job file) (length before);
      right : RightFor LayoutLength file (length before) r;
      buffer : after ≡ buffer_after route_text (read_job file) before;
      shortest : OfWritten (λ j text. ShortestText j (plan_of j) text) (read_job file) r after;
      sound : OfWritten (λ j text. Sound j text) (read_job file) r after;
      unbeaten : OfWritten (λ j text. UnbeatenText j text) (read_job file) r after;
    }

-- the text that route writes is a layout of the job
layout_length : (job : Job) → AcceptedJob job → LayoutLength job (length (route_text job))
layout_length job a = let d = route_demanded job a (route_text job) refl in (route_text job, (d.0, (d.1.0, refl)))

pub promised : (file before : List ℕ) {r : Result ℕ TextRefusal} {after : List ℕ} → Given route_text file before r after → Promised file before r after
promised file before g =
    let held : (P : Job → List ℕ → Type 0) → ((job : Job) → AcceptedJob job → P job (route_text job)) → OfWritten P (read_job file) _ _ = held_given route_text file before g in
    record {
      answer = g.0;
      values = values_given route_text file before g;
      right = right_given route_text file before g LayoutLength route_length layout_length;
      buffer = g.1;
      shortest = held (λ j text. ShortestText j (plan_of j) text) (λ j a. (route_demanded j a (route_text j) refl).0);
      sound = held (λ j text. Sound j text) (λ j a. (route_demanded j a (route_text j) refl).1.0);
      unbeaten = held (λ j text. UnbeatenText j text) (λ j a. (route_demanded j a (route_text j) refl).1.1);
    }

-- the plan of an accepted job can be drawn, its text is the one that route writes, and that is short
module _ (job : Job) (a : AcceptedJob job) (plan : JobPlan) (p : plan ≡ job_plan_of job) where
  plan_text_lem : plan_text job plan ≡ route_text job
  plan_text_lem = ap (plan_text job) p ∙ plan_is_route job a

  pub plan_can : DrawablePlan job plan
  plan_can = rw p (plan_drawable job a)

  pub plan_short : length (plan_text job plan) ≤ 64000
  plan_short = rw plan_text_lem (route_length job a)

  -- what was drawn is the text that route writes
  pub drawn_text : {blank drawn : List ℕ} {n : ℕ} → Written (plan_text job plan) blank drawn n → take n drawn ≡ route_text job
  drawn_text d = start_written d ∙ plan_text_lem
