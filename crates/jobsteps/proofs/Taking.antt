-- What a line of each form leads to, in its place and out of it. Assumes nothing.
use Rattle.std.specs.Prelude.{Option, Result, Ok, Err, IfErr}
use Prim.Native.Nat.{ℕ, ◌≤◌}
use mathlib.Core.Path.{◌≡◌, refl, sym, ap, ◌∙◌}
use mathlib.Core.Bool.{Bool, true, false}
use native.Mathlib.Omega.{arith}
use Rattle.board.specs.declared.Net.{Net}
use Rattle.board.specs.declared.Block.{Block}
use Rattle.board.specs.declared.StoredJob.{StoredJob}
use Rattle.board.specs.Job.{Job}
use Rattle.board.specs.Stored.{job_of, stored_of}
use Rattle.jobfile.specs.declared.Form.{Form}
use Rattle.jobfile.specs.declared.Form.TheVariants as Is
use Rattle.jobfile.specs.declared.Refusal.{Refusal}
use Rattle.jobfile.specs.declared.Refusal.TheVariants.{NotOfForm, OutOfRange}
use Rattle.jobfile.specs.Read.{State, Next, go, stop, sized, filled, unless, within, at_start, at_opened, at_sized, at_filled, net_of, with_weight, block_of, board_of, empty_job, add_net, add_block, step}
use Rattle.jobfile.specs.Answers.{no_job}
use Rattle.board.proofs.StoredJobs.{job_back}
use Rattle.jobfile.proofs.Tests.{within_is}
use Rattle.jobrules.specs.Rules.{outcome_of}
use Rattle.jobsteps.specs.LinesAbove.{state_of, Held, Taken}
use Rattle.jobsteps.specs.declared.NetsRead.{NetsRead}
use Rattle.jobsteps.specs.declared.Stage.{Stage}
use Rattle.jobsteps.specs.declared.Stage.TheVariants as At

-- ---- the test of H or K

pub size_refused : (passed : Bool) (o : Refusal) (s : State) → passed ≡ false → Err o ≡ outcome_of (unless passed o (go s))
unfolding unless outcome_of
size_refused passed o s e = rw e

pub size_passed : (passed : Bool) (o : Refusal) (s : State) → passed ≡ true → Ok tt ≡ outcome_of (unless passed o (go s))
unfolding unless outcome_of
size_passed passed o s e = rw e

-- what a line leads to, by its outcome

pub stops_by : (x : Next) (o : Refusal) → Err o ≡ outcome_of x → x ≡ stop o
unfolding outcome_of
stops_by (go s) o e = cc
stops_by (stop q) o e = let f : o ≡ q = cc in ap stop (sym f)

goes_by : (passed : Bool) (o : Refusal) (x : Next) → Ok tt ≡ outcome_of (unless passed o x) → passed ≡ true
unfolding unless outcome_of
goes_by true o x e = refl
goes_by false o x e = cc

-- ---- a form out of its place

not_start : (k : ℕ) (stage : Stage) (job : StoredJob) (x : Next) → (stage ≡ At.Start → ⊥) → at_start k (state_of stage job) x ≡ stop (NotOfForm k)
unfolding state_of at_start
not_start k At.Start job x n = absurd (n refl)
not_start k At.Opened job x n = refl
not_start k (At.Sized h) job x n = refl
not_start k At.Filled job x n = refl
not_start k At.Closed job x n = refl

not_opened : (k : ℕ) (stage : Stage) (job : StoredJob) (x : Next) → (stage ≡ At.Opened → ⊥) → at_opened k (state_of stage job) x ≡ stop (NotOfForm k)
unfolding state_of at_opened
not_opened k At.Start job x n = refl
not_opened k At.Opened job x n = absurd (n refl)
not_opened k (At.Sized h) job x n = refl
not_opened k At.Filled job x n = refl
not_opened k At.Closed job x n = refl

not_sized : (k : ℕ) (stage : Stage) (job : StoredJob) (f : ℕ → Next) → ((h : ℕ) → stage ≡ At.Sized h → ⊥) → at_sized k (state_of stage job) f ≡ stop (NotOfForm k)
unfolding state_of at_sized
not_sized k At.Start job f n = refl
not_sized k At.Opened job f n = refl
not_sized k (At.Sized h) job f n = absurd (n h refl)
not_sized k At.Filled job f n = refl
not_sized k At.Closed job f n = refl

not_filled : (k : ℕ) (stage : Stage) (job : StoredJob) (f : Job → Next) → (stage ≡ At.Filled → ⊥) → at_filled k (state_of stage job) f ≡ stop (NotOfForm k)
unfolding state_of at_filled
not_filled k At.Start job f n = refl
not_filled k At.Opened job f n = refl
not_filled k (At.Sized h) job f n = refl
not_filled k At.Filled job f n = absurd (n refl)
not_filled k At.Closed job f n = refl

-- what stays beside something else that a refusal leaves as it was
pub kept_beside : {A B T E : Type 0} (x : A) (y z : B) (r : Result T E) → IfErr r (λ o. y ≡ z) → IfErr r (λ o. (x ≡ x) × (y ≡ z))
kept_beside x y z (Ok v) e = tt
kept_beside x y z (Err o) e = (refl, e)

-- nets and blocks come to a job with its size
pub held_filled : (stage : Stage) (a : NetsRead) (job : StoredJob) → Held stage a job → stage ≡ At.Filled → Held At.Filled a job
held_filled stage a job h s = rw s at h

module _ (k : ℕ) (stage : Stage) (job : StoredJob) (form : Form) where
  -- what the line leads to
  abbrev led : Next
  led = step k (state_of stage job) form

  pub other_board : form ≡ Is.Board → (stage ≡ At.Start → ⊥) → led ≡ stop (NotOfForm k)
  unfolding step
  other_board e n = rw e (not_start k stage job _ n)

  pub other_rows : (h : ℕ) → form ≡ Is.Rows h → (stage ≡ At.Opened → ⊥) → led ≡ stop (NotOfForm k)
  unfolding step
  other_rows h e n = rw e (not_opened k stage job _ n)

  pub other_tracks : (t : ℕ) → form ≡ Is.Tracks t → ((h : ℕ) → stage ≡ At.Sized h → ⊥) → led ≡ stop (NotOfForm k)
  unfolding step
  other_tracks t e n = rw e (not_sized k stage job _ n)

  pub other_net : (i l r lo hi : ℕ) (w : Option ℕ) → form ≡ Is.Net i l r lo hi w → (stage ≡ At.Filled → ⊥) → led ≡ stop (NotOfForm k)
  unfolding step
  other_net i l r lo hi w e n = rw e (not_filled k stage job _ n)

  pub other_block : (t a b : ℕ) → form ≡ Is.Block t a b → (stage ≡ At.Filled → ⊥) → led ≡ stop (NotOfForm k)
  unfolding step
  other_block t a b e n = rw e (not_filled k stage job _ n)

  pub other_close : form ≡ Is.Close → (stage ≡ At.Filled → ⊥) → led ≡ stop (NotOfForm k)
  unfolding step
  other_close e n = rw e (not_filled k stage job _ n)

  pub other_form : form ≡ Is.Other → led ≡ stop (NotOfForm k)
  unfolding step
  other_form e = rw e

  -- ---- a form in its place

  rows_led : (h : ℕ) → stage ≡ At.Opened → form ≡ Is.Rows h → led ≡ unless (within 1 1024 h) (OutOfRange k) (go (sized h))
  unfolding step state_of at_opened
  rows_led h s e = rw (e, s)

  tracks_led : (h t : ℕ) → stage ≡ At.Sized h → form ≡ Is.Tracks t → led ≡ unless (within 1 128 t) (OutOfRange k) (go (filled (empty_job (board_of h t))))
  unfolding step state_of at_sized
  tracks_led h t s e = rw (e, s)

  pub net_led : (i l r lo hi : ℕ) (w : Option ℕ) (n : Net) → stage ≡ At.Filled → form ≡ Is.Net i l r lo hi w → n ≡ net_of i l r lo hi 0 →
      led ≡ add_net k (with_weight job.board n w) w (job_of job)
  unfolding step state_of at_filled
  net_led i l r lo hi w n s e m = rw (e, s, m)

  pub block_led : (t x y : ℕ) (b : Block) → stage ≡ At.Filled → form ≡ Is.Block t x y → b ≡ block_of t x y → led ≡ add_block k b (job_of job)
  unfolding step state_of at_filled
  block_led t x y b s e m = rw (e, s, m)

  -- a size out of range

  pub rows_refused : (h : ℕ) (o : Refusal) → stage ≡ At.Opened → form ≡ Is.Rows h →
      Err o ≡ outcome_of (unless (within 1 1024 h) (OutOfRange k) (go (sized h))) → led ≡ stop o
  rows_refused h o s e q = rows_led h s e ∙ stops_by _ o q

  pub tracks_refused : (h t : ℕ) (o : Refusal) → stage ≡ At.Sized h → form ≡ Is.Tracks t →
      Err o ≡ outcome_of (unless (within 1 128 t) (OutOfRange k) (go (filled (empty_job (board_of h t))))) → led ≡ stop o
  tracks_refused h t o s e q = tracks_led h t s e ∙ stops_by _ o q

  module _ (a : NetsRead) (held : Held stage a job) where
    pub blank_taken : form ≡ Is.Blank → Taken led (Ok stage) a job
    unfolding step
    blank_taken e = (rw e, held)

    pub board_taken : stage ≡ At.Start → form ≡ Is.Board → Taken led (Ok At.Opened) a job
    unfolding step state_of at_start
    board_taken s e = (rw (e, s), record { job_is = rw s at held.job_is; nets_are = held.nets_are })

    pub rows_taken : (h : ℕ) → stage ≡ At.Opened → form ≡ Is.Rows h →
        Ok tt ≡ outcome_of (unless (within 1 1024 h) (OutOfRange k) (go (sized h))) → Taken led (Ok (At.Sized h)) a job
    unfolding unless state_of
    rows_taken h s e q =
        let p : within 1 1024 h ≡ true = goes_by _ _ _ q in
        let i : job ≡ stored_of no_job = rw s at held.job_is in
        let r = (within_is 1 1024 h).0 p in
        (rows_led h s e ∙ rw p, record { job_is = (i, r.0, r.1); nets_are = held.nets_are })

    pub tracks_taken : (h t : ℕ) → stage ≡ At.Sized h → form ≡ Is.Tracks t →
        Ok tt ≡ outcome_of (unless (within 1 128 t) (OutOfRange k) (go (filled (empty_job (board_of h t))))) →
        Taken led (Ok At.Filled) a (record { board = board_of h t; nnets = job.nnets; nblocks = job.nblocks; nets = job.nets; blocks = job.blocks })
    unfolding unless state_of stored_of
    tracks_taken h t s e q =
        let p : within 1 128 t ≡ true = goes_by _ _ _ q in
        let i : (job ≡ stored_of no_job) × (1 ≤ h) × (h ≤ 1024) = rw s at held.job_is in
        let m : StoredJob = record { board = board_of h t; nnets = job.nnets; nblocks = job.nblocks; nets = job.nets; blocks = job.blocks } in
        let v : m ≡ stored_of (empty_job (board_of h t)) =
        ap (λ (w : StoredJob). record { board = board_of h t; nnets = w.nnets; nblocks = w.nblocks; nets = w.nets; blocks = w.blocks }) i.0 in
        let j : job_of m ≡ empty_job (board_of h t) = ap job_of v ∙ job_back (empty_job (board_of h t)) in (
          tracks_led h t s e ∙ rw (p, j),
          record {
            job_is =
                record {
                  stored = ap stored_of j ∙ sym v;
                  board_range = record { rows_range = (i.1, i.2); tracks_range = (within_is 1 128 t).0 p };
                  nets_count = let z : m.nnets ≡ 0 = ap (λ (w : StoredJob). w.nnets) v in omega arith;
                  blocks_count = let z : m.nblocks ≡ 0 = ap (λ (w : StoredJob). w.nblocks) v in omega arith;
                };
            nets_are = held.nets_are;
          },
        )

    pub close_taken : stage ≡ At.Filled → form ≡ Is.Close → Taken led (Ok At.Closed) a job
    unfolding step state_of at_filled
    close_taken s e = (rw (e, s), record { job_is = rw s at held.job_is; nets_are = held.nets_are })

pub ruleset line_taken = (blank_taken, board_taken, close_taken, other_board, other_rows, other_tracks, other_net, other_block, other_close, other_form)
