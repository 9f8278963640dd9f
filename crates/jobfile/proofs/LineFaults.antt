-- A line is refused for that of its faults which has the smallest number, and goes through where it has none. Assumes nothing.
use Rattle.std.specs.Prelude.{Option}
use Prim.Native.Nat.{ℕ, ◌≤◌}
use mathlib.Core.Path.{◌≡◌, refl, ap, subst, ◌∙◌}
use mathlib.Core.List.{List, [], ◌∷◌, ◌++◌, Memᴰ}
use native.Mathlib.Omega.{arith}
use lib.ListN.{length}
use Rattle.board.specs.Job.{Job}
use Rattle.jobfile.specs.declared.Form.{Form}
use Rattle.jobfile.specs.declared.Form.TheVariants as Is
use Rattle.jobfile.specs.declared.Refusal.{Refusal}
use Rattle.jobfile.specs.declared.Refusal.TheVariants.{NotOfForm, OutOfRange}
use Rattle.jobfile.specs.Read.{State, start, opened, sized, filled, closed, Next, go, stop, unless, at_start, at_opened, at_sized, at_filled, within, net_given, block_of, board_of, empty_job, add_net, add_block, step}
use Rattle.jobfile.specs.Answers.{number_of, line_of, no_job}
use Rattle.jobfile.specs.Faults.{with_form, job_in, net, block, Ordered, MayFollow, NetFault, NotAbove, BlockFault, LineFault, not_of_form, rows_range, tracks_range, of_net, of_block}
use Rattle.jobfile.proofs.Tests.{denied, within_is}
use Rattle.jobfile.proofs.TestOrder.{Judged, judged_same, test, tested_judged}
use Rattle.jobfile.proofs.NetFaults.{net_at, net_judged}
use Rattle.jobfile.proofs.BlockFaults.{block_at, block_judged}
use Rattle.jobfile.proofs.LinesAbove.{LinesReach, job_more, lines_more, ordered_item, ordered_close, reached_blank, not_both}

pub fault_at : (above : List Form) (k : ℕ) (f : Form) (o : Refusal) → LineFault above k f o → (line_of o ≡ k) × (2 ≤ number_of o)
fault_at above k f o (not_of_form x) = (refl, omega arith)
fault_at above k f o (rows_range x) = (refl, omega arith)
fault_at above k f o (tracks_range x) = (refl, omega arith)
fault_at above k f o (of_net x) = let a = net_at x in (a.0, omega arith)
fault_at above k f o (of_block {t = t} {a = a} {b = b} x) =
    let a = block_at (job_in above) (block_of t a b) k o x in (a.0, omega arith)

module _ (above : List Form) (k : ℕ) where
  -- what line k of form f leads to is right
  abbrev pub LineJudged : Form → Next → Type 0
  LineJudged f x = Judged (LineFault above k f) (λ s. LinesReach s (above ++ (f ∷ []))) x

  -- a form in a wrong place
  wrong : (f : Form) → (MayFollow above f → ⊥) → LineJudged f (stop (NotOfForm k))
  wrong f deny = record { fault = not_of_form deny; least = λ p q. (fault_at above k f p q).1 }

  at_start_lem : (s : State) (x : Next) → LinesReach s above → (LinesReach start above → LineJudged Is.Board x) → LineJudged Is.Board (at_start k s x)
  unfolding at_start
  at_start_lem start x r g = g r
  at_start_lem opened x r g = wrong Is.Board (λ m. omega (arith, ap length m, ap length r.0))
  at_start_lem (sized h) x r g = wrong Is.Board (λ m. omega (arith, ap length m, ap length r.0))
  at_start_lem (filled j) x r g = wrong Is.Board (λ m. omega (arith, ap length m, ap length r.0.lines_are))
  at_start_lem (closed j) x r g = wrong Is.Board (λ m. omega (arith, ap length m, ap length r.0.lines_are))

  at_opened_lem : (i : ℕ) (s : State) (x : Next) → LinesReach s above → (LinesReach opened above → LineJudged (Is.Rows i) x) →
      LineJudged (Is.Rows i) (at_opened k s x)
  unfolding at_opened
  at_opened_lem i start x r g = wrong (Is.Rows i) (λ m. omega (arith, ap length m, ap length r.0))
  at_opened_lem i opened x r g = g r
  at_opened_lem i (sized h) x r g = wrong (Is.Rows i) (λ m. omega (arith, ap length m, ap length r.0))
  at_opened_lem i (filled j) x r g = wrong (Is.Rows i) (λ m. omega (arith, ap length m, ap length r.0.lines_are))
  at_opened_lem i (closed j) x r g = wrong (Is.Rows i) (λ m. omega (arith, ap length m, ap length r.0.lines_are))

  at_sized_lem : (t : ℕ) (s : State) (f : ℕ → Next) → LinesReach s above →
      ((h : ℕ) → LinesReach (sized h) above → LineJudged (Is.Tracks t) (f h)) → LineJudged (Is.Tracks t) (at_sized k s f)
  unfolding at_sized
  at_sized_lem t start f r g = wrong (Is.Tracks t) (λ m. omega (arith, ap length m.1, ap length r.0))
  at_sized_lem t opened f r g = wrong (Is.Tracks t) (λ m. omega (arith, ap length m.1, ap length r.0))
  at_sized_lem t (sized h) f r g = g h r
  at_sized_lem t (filled j) f r g = wrong (Is.Tracks t) (λ m. omega (arith, ap length m.1, ap length r.0.lines_are))
  at_sized_lem t (closed j) f r g = wrong (Is.Tracks t) (λ m. omega (arith, ap length m.1, ap length r.0.lines_are))

  at_filled_lem : (x : Form) (s : State) (f : Job → Next) → (MayFollow above x → Ordered [] above) → LinesReach s above →
      ((job : Job) → LinesReach (filled job) above → LineJudged x (f job)) → LineJudged x (at_filled k s f)
  unfolding at_filled
  at_filled_lem x start f to r g = wrong x (λ m. omega (arith, ap length (to m).lines_are, ap length r.0))
  at_filled_lem x opened f to r g = wrong x (λ m. omega (arith, ap length (to m).lines_are, ap length r.0))
  at_filled_lem x (sized h) f to r g = wrong x (λ m. omega (arith, ap length (to m).lines_are, ap length r.0))
  at_filled_lem x (filled j) f to r g = g j r
  at_filled_lem x (closed j) f to r g = wrong x (λ m. not_both above (to m) r.0)

  -- the faults of a form in its place
  no_blank : (o : Refusal) → LineFault above k Is.Blank o → ⊥
  no_blank o (not_of_form x) = x tt

  no_board : LinesReach start above → (o : Refusal) → LineFault above k Is.Board o → ⊥
  no_board r o (not_of_form x) = x r.0

  -- P, if the refusal is that of a number outside its range
  abbrev IfRange : Type 0 → Refusal → Type 0
  IfRange P (OutOfRange m) = P
  IfRange P _ = Unit {0}

  rows_of_line : {h : ℕ} {o : Refusal} → LineFault above k (Is.Rows h) o → IfRange ((1 ≤ h) × (h ≤ 1024) → ⊥) o
  rows_of_line (not_of_form x) = tt
  rows_of_line (rows_range x) = x

  rows_only : (h : ℕ) → LinesReach opened above → (o : Refusal) → LineFault above k (Is.Rows h) o → Memᴰ o (OutOfRange k ∷ [])
  rows_only h r o (not_of_form x) = absurd (x r.0)
  rows_only h r o (rows_range x) = Memᴰ.head refl

  tracks_of_line : {t : ℕ} {o : Refusal} → LineFault above k (Is.Tracks t) o → IfRange ((1 ≤ t) × (t ≤ 128) → ⊥) o
  tracks_of_line (not_of_form x) = tt
  tracks_of_line (tracks_range x) = x

  tracks_only : (t h : ℕ) → LinesReach (sized h) above → (o : Refusal) → LineFault above k (Is.Tracks t) o →
      Memᴰ o (OutOfRange k ∷ [])
  tracks_only t h r o (not_of_form x) = absurd (x (h, r.0))
  tracks_only t h r o (tracks_range x) = Memᴰ.head refl

  net_only : (i l r lo hi : ℕ) (w : Option ℕ) → Ordered [] above → (o : Refusal) → LineFault above k (Is.Net i l r lo hi w) o →
      (let n = net_given (job_in above).board i l r lo hi w in NetFault (NotAbove (job_in above).nets n) (job_in above) n w k o)
  net_only i l r lo hi w a o (not_of_form x) = absurd (x a)
  net_only i l r lo hi w a o (of_net x) = x

  block_only : (t a b : ℕ) → Ordered [] above → (o : Refusal) → LineFault above k (Is.Block t a b) o →
      BlockFault (job_in above) (block_of t a b) k o
  block_only t a b q o (not_of_form x) = absurd (x q)
  block_only t a b q o (of_block x) = x

  no_close_fault : Ordered [] above → (o : Refusal) → LineFault above k Is.Close o → ⊥
  no_close_fault a o (not_of_form x) = x a

  -- the forms in their places
  board_line : LinesReach start above → LineJudged Is.Board (go opened)
  unfolding with_form
  board_line r = ((lines_more above Is.Board refl ∙ (rw r.0), job_more no_job above Is.Board ∙ r.1), no_board r)

  rows_line : (h : ℕ) → LinesReach opened above → LineJudged (Is.Rows h) (unless (within 1 1024 h) (OutOfRange k) (go (sized h)))
  unfolding with_form
  rows_line h r =
      tested_judged (LineFault above k (Is.Rows h)) (λ s. LinesReach s (above ++ (Is.Rows h ∷ []))) (sized h)
      (lines_more above (Is.Rows h) refl ∙ (rw r.0), job_more no_job above (Is.Rows h) ∙ (rw r.1))
      (test (within 1 1024 h) (OutOfRange k) ∷ []) (tt, tt)
      (record { fails = λ e. rows_range (denied _ (within_is 1 1024 h) e); passes = λ e f. rows_of_line f ((within_is 1 1024 h).0 e) }, λ e. tt)
      (rows_only h r)

  tracks_line : (t h : ℕ) → LinesReach (sized h) above →
      LineJudged (Is.Tracks t) (unless (within 1 128 t) (OutOfRange k) (go (filled (empty_job (board_of h t)))))
  unfolding with_form
  tracks_line t h r =
      let f = Is.Tracks t in
      let a : Ordered [] (above ++ (f ∷ [])) =
      record { rows = h; tracks = t; items = []; lines_are = lines_more above f refl ∙ (rw r.0); items_are = tt } in
      tested_judged (LineFault above k f) (λ s. LinesReach s (above ++ (f ∷ []))) (filled (empty_job (board_of h t)))
      (a, job_more no_job above f ∙ (rw r.1))
      (test (within 1 128 t) (OutOfRange k) ∷ []) (tt, tt)
      (record { fails = λ e. tracks_range (denied _ (within_is 1 128 t) e); passes = λ e f. tracks_of_line f ((within_is 1 128 t).0 e) }, λ e. tt)
      (tracks_only t h r)

  net_line_judged : (i l r lo hi : ℕ) (w : Option ℕ) (job : Job) → LinesReach (filled job) above →
      LineJudged (Is.Net i l r lo hi w) (add_net k (net_given job.board i l r lo hi w) w job)
  unfolding with_form
  net_line_judged i l r lo hi w job a =
      let n = net_given (job_in above).board i l r lo hi w in
      let f = Is.Net i l r lo hi w in
      let G : State → Type 0 = λ s. LinesReach s (above ++ (f ∷ [])) in
      subst (λ j. LineJudged (Is.Net i l r lo hi w) (add_net k (net_given j.board i l r lo hi w) w j)) a.1
      (judged_same (NetFault (NotAbove (job_in above).nets n) (job_in above) n w k) (LineFault above k f) G (add_net k n w (job_in above))
      (λ o x. of_net x) (net_only i l r lo hi w a.0)
      (net_judged (job_in above) n w k G (ordered_item above f refl net a.0, job_more no_job above f)))

  block_line_judged : (t a b : ℕ) (job : Job) → LinesReach (filled job) above →
      LineJudged (Is.Block t a b) (add_block k (block_of t a b) job)
  unfolding with_form
  block_line_judged t a b job q =
      let x = block_of t a b in
      let f = Is.Block t a b in
      let G : State → Type 0 = λ s. LinesReach s (above ++ (f ∷ [])) in
      subst (λ j. LineJudged (Is.Block t a b) (add_block k (block_of t a b) j)) q.1
      (judged_same (BlockFault (job_in above) x k) (LineFault above k f) G (add_block k x (job_in above))
      (λ o x. of_block x) (block_only t a b q.0)
      (block_judged (job_in above) x k G (ordered_item above f refl block q.0, job_more no_job above f)))

  close_line : (job : Job) → LinesReach (filled job) above → LineJudged Is.Close (go (closed job))
  unfolding with_form
  close_line job r = ((ordered_close above r.0, job_more no_job above Is.Close ∙ r.1), no_close_fault r.0)

  pub step_judged : (s : State) (f : Form) → LinesReach s above → LineJudged f (step k s f)
  unfolding step
  step_judged s Is.Blank r = (reached_blank s above r, no_blank)
  step_judged s Is.Board r = at_start_lem s (go opened) r board_line
  step_judged s (Is.Rows h) r = at_opened_lem h s _ r (rows_line h)
  step_judged s (Is.Tracks t) r = at_sized_lem t s _ r (tracks_line t)
  step_judged s (Is.Net i l r lo hi w) a = at_filled_lem (Is.Net i l r lo hi w) s _ (λ m. m) a (net_line_judged i l r lo hi w)
  step_judged s (Is.Block t a b) r = at_filled_lem (Is.Block t a b) s _ (λ m. m) r (block_line_judged t a b)
  step_judged s Is.Close r = at_filled_lem Is.Close s _ (λ m. m) r close_line
  step_judged s Is.Other r = wrong Is.Other (λ m. m)
