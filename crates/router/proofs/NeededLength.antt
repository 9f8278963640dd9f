-- Refusal 10 names one length: that of the text which route writes into a buffer that is long enough. Assumes nothing.
use Rattle.std.specs.Prelude.{Ok, Err}
use Prim.Native.Nat.{ℕ}
use mathlib.Core.Path.{◌≡◌, sym, ap, ◌∙◌}
use mathlib.Core.List.{List}
use lib.ListN.{length}
use Rattle.board.specs.Job.{Job}
use Rattle.jobfile.specs.Faults.{forms_of, job_in}
use Rattle.jobfile.proofs.Refusals.{faultless_accepted}
use Rattle.jobfile.proofs.Accepts.{read_accepted}
use Rattle.routing.specs.Route.{route_text}
use Rattle.routing.proofs.OnlyText.{only_text}
use Rattle.answers.specs.declared.TextRefusal.TheVariants.{TooSmall}
use Rattle.answers.specs.Answers.{RightFor}
use Rattle.answers.proofs.TakenOut.{too_small_is}
use Rattle.router.specs.LayoutLength.{LayoutLength}

module _ (text : List ℕ) (room : ℕ) where
  -- the job that the lines of the text hold
  abbrev held : Job
  held = job_in (forms_of text)

  pub needed_is : (n : ℕ) → RightFor LayoutLength text room (Err (TooSmall n)) → n ≡ length (route_text held)
  needed_is n h =
      let s = too_small_is LayoutLength text room n h in
      let e = faultless_accepted text s.0 in
      let w : LayoutLength held n = rw e at s.3 in
      sym w.1.1.1 ∙ ap length (only_text held (read_accepted text held e) w.0 w.1.1.0 w.1.0)
