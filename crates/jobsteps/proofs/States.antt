-- The states that a reading goes through are ones that the code can hold, and a refusal names the line at which it stands. Assumes
-- nothing.
use Rattle.std.specs.Prelude.{Option}
use Prim.Native.Nat.{ℕ, ◌≤◌}
use mathlib.Core.Path.{◌≡◌, refl, ap}
use mathlib.Core.Bool.{Bool, true, false}
use mathlib.Core.List.{[], ◌∷◌}
use native.Mathlib.Omega.{arith}
use lib.ListN.{length, length-append}
use borrow.Author.Tests.{ltb-true}
use Rattle.board.specs.declared.Net.{Net}
use Rattle.board.specs.declared.Block.{Block}
use Rattle.board.specs.declared.StoredJob.{StoredJob}
use Rattle.board.specs.Job.{Job}
use Rattle.board.specs.Accepted.{BoardInRange}
use Rattle.board.specs.Stored.{job_of, stored_of}
use Rattle.jobfile.specs.declared.Form.{Form}
use Rattle.jobfile.specs.declared.Form.TheVariants as Is
use Rattle.jobfile.specs.declared.Refusal.{Refusal}
use Rattle.jobfile.specs.declared.Refusal.TheVariants.{NotOfForm}
use Rattle.jobfile.specs.Read.{State, start, opened, sized, filled, closed, Next, go, stop, unless, at_start, at_opened, at_sized, at_filled, net_given, block_of, board_of, empty_job, test_net, add_net, add_block, step}
use Rattle.jobfile.specs.Answers.{no_job, number_of, line_of}
use Rattle.jobfile.proofs.Tests.{within_is}
use Rattle.board.proofs.StoredJobs.{job_back}
use Rattle.jobsteps.specs.LinesAbove.{state_of, Filled, JobAt, NetsAre, Held}
use Rattle.jobsteps.specs.declared.NetsRead.{NetsRead}
use Rattle.jobsteps.specs.declared.Stage.{Stage}
use Rattle.jobsteps.specs.declared.Stage.TheVariants as At
use Rattle.jobsteps.proofs.Slots.{nets_used, blocks_used}

-- a job whose size is in range and that has room for its nets and blocks
pub record Sized (job : Job) : Type 0 where
  pub board_range : BoardInRange job.board
  pub nets_count : length job.nets ≤ 512
  pub blocks_count : length job.blocks ≤ 256

abbrev pub SizedState : State → Type 0
SizedState start = Unit {0}
SizedState opened = Unit {0}
SizedState (sized h) = (1 ≤ h) × (h ≤ 1024)
SizedState (filled job) = Sized job
SizedState (closed job) = Sized job

-- ---- the code holds a good state

stored_filled : (job : Job) → Sized job → Filled (stored_of job)
unfolding stored_of
stored_filled job g =
    record {
      stored = ap stored_of (job_back job);
      board_range = g.board_range;
      nets_count = g.nets_count;
      blocks_count = g.blocks_count;
    }

-- the stage of a state, and the job by value that stands for it there
abbrev pub stage_of : State → Stage
stage_of start = At.Start
stage_of opened = At.Opened
stage_of (sized h) = At.Sized h
stage_of (filled job) = At.Filled
stage_of (closed job) = At.Closed

abbrev pub value_of : State → StoredJob
value_of start = stored_of no_job
value_of opened = stored_of no_job
value_of (sized h) = stored_of no_job
value_of (filled job) = stored_of job
value_of (closed job) = stored_of job

pub state_back : (s : State) → state_of (stage_of s) (value_of s) ≡ s
unfolding state_of
state_back start = refl
state_back opened = refl
state_back (sized h) = refl
state_back (filled job) = ap filled (job_back job)
state_back (closed job) = ap closed (job_back job)

pub job_at : (s : State) → SizedState s → JobAt (stage_of s) (value_of s)
job_at start g = refl
job_at opened g = refl
job_at (sized h) g = (refl, g.0, g.1)
job_at (filled job) g = stored_filled job g
job_at (closed job) g = stored_filled job g

-- with the last number and the pins of its nets it is held
pub held_of : (s : State) (a : NetsRead) → SizedState s → NetsAre (job_of (value_of s)).nets a → Held (stage_of s) a (value_of s)
held_of s a g n = record { job_is = job_at s g; nets_are = n }

filled_sized : (job : StoredJob) → Filled job → Sized (job_of job)
filled_sized job f =
    record {
      board_range = f.board_range;
      nets_count = omega (arith, nets_used job f);
      blocks_count = omega (arith, blocks_used job f);
    }

good_at : (stage : Stage) (job : StoredJob) → JobAt stage job → SizedState (state_of stage job)
unfolding state_of
good_at At.Start job r = tt
good_at At.Opened job r = tt
good_at (At.Sized h) job r = (r.1, r.2)
good_at At.Filled job r = filled_sized job r
good_at At.Closed job r = filled_sized job r

pub held_good : (stage : Stage) (a : NetsRead) (job : StoredJob) → Held stage a job → SizedState (state_of stage job)
held_good stage a job h = good_at stage job h.job_is

-- ---- a line leads to a good state, or to a refusal on its line

abbrev pub LeadsOn : ℕ → Next → Type 0
LeadsOn k (go s) = SizedState s
LeadsOn k (stop o) = (number_of o ≡ 0 → ⊥) × (line_of o ≡ k)

not_form : (k : ℕ) → LeadsOn k (stop (NotOfForm k))
not_form k = (λ z. omega arith, refl)

unless_sound : (k : ℕ) (b : Bool) (o : Refusal) (x : Next) → (number_of o ≡ 0 → ⊥) → line_of o ≡ k → (b ≡ true → LeadsOn k x) → LeadsOn k (unless b o x)
unfolding unless
unless_sound k true o x h l f = f refl
unless_sound k false o x h l f = (h, l)

net_sound : (k : ℕ) (n : Net) (w : Option ℕ) (job : Job) → Sized job → LeadsOn k (add_net k n w job)
unfolding add_net test_net
net_sound k n w job g =
    unless_sound k _ _ _ (λ z. omega arith) refl (λ e3.
    unless_sound k _ _ _ (λ z. omega arith) refl (λ e4.
    unless_sound k _ _ _ (λ z. omega arith) refl (λ e5.
    unless_sound k _ _ _ (λ z. omega arith) refl (λ e6.
    unless_sound k _ _ _ (λ z. omega arith) refl (λ e7.
    unless_sound k _ _ _ (λ z. omega arith) refl (λ e8.
    unless_sound k _ _ _ (λ z. omega arith) refl (λ e9.
    record {
      board_range = g.board_range;
      nets_count = omega (arith, length-append job.nets (n ∷ []), ltb-true (length job.nets) 512 e4);
      blocks_count = g.blocks_count;
    })))))))

block_sound : (k : ℕ) (b : Block) (job : Job) → Sized job → LeadsOn k (add_block k b job)
unfolding add_block
block_sound k b job g =
    unless_sound k _ _ _ (λ z. omega arith) refl (λ e3.
    unless_sound k _ _ _ (λ z. omega arith) refl (λ e4.
    record {
      board_range = g.board_range;
      nets_count = g.nets_count;
      blocks_count = omega (arith, length-append job.blocks (b ∷ []), ltb-true (length job.blocks) 256 e4);
    }))

start_sound : (k : ℕ) (s : State) (x : Next) → LeadsOn k x → LeadsOn k (at_start k s x)
unfolding at_start
start_sound k start x g = g
start_sound k opened x g = not_form k
start_sound k (sized h) x g = not_form k
start_sound k (filled j) x g = not_form k
start_sound k (closed j) x g = not_form k

opened_sound : (k : ℕ) (s : State) (x : Next) → LeadsOn k x → LeadsOn k (at_opened k s x)
unfolding at_opened
opened_sound k start x g = not_form k
opened_sound k opened x g = g
opened_sound k (sized h) x g = not_form k
opened_sound k (filled j) x g = not_form k
opened_sound k (closed j) x g = not_form k

sized_sound : (k : ℕ) (s : State) (f : ℕ → Next) → SizedState s → ((h : ℕ) → SizedState (sized h) → LeadsOn k (f h)) → LeadsOn k (at_sized k s f)
unfolding at_sized
sized_sound k start f a g = not_form k
sized_sound k opened f a g = not_form k
sized_sound k (sized h) f a g = g h a
sized_sound k (filled j) f a g = not_form k
sized_sound k (closed j) f a g = not_form k

filled_sound : (k : ℕ) (s : State) (f : Job → Next) → SizedState s → ((j : Job) → Sized j → LeadsOn k (f j)) → LeadsOn k (at_filled k s f)
unfolding at_filled
filled_sound k start f a g = not_form k
filled_sound k opened f a g = not_form k
filled_sound k (sized h) f a g = not_form k
filled_sound k (filled j) f a g = g j a
filled_sound k (closed j) f a g = not_form k

empty_sized : (h t : ℕ) → (1 ≤ h) × (h ≤ 1024) → (1 ≤ t) × (t ≤ 128) → Sized (empty_job (board_of h t))
empty_sized h t a b =
    record { board_range = record { rows_range = a; tracks_range = b }; nets_count = omega arith; blocks_count = omega arith }

pub step_sound : (k : ℕ) (s : State) (x : Form) → SizedState s → LeadsOn k (step k s x)
unfolding step
step_sound k s Is.Blank g = g
step_sound k s Is.Board g = start_sound k s (go opened) tt
step_sound k s (Is.Rows h) g =
    opened_sound k s _ (unless_sound k _ _ (go (sized h)) (λ z. omega arith) refl (λ e. (within_is 1 1024 h).0 e))
step_sound k s (Is.Tracks t) g =
    sized_sound k s _ g (λ h r.
    unless_sound k _ _ (go (filled (empty_job (board_of h t)))) (λ z. omega arith) refl (λ e. empty_sized h t r ((within_is 1 128 t).0 e)))
step_sound k s (Is.Net i l r lo hi w) g =
    filled_sound k s _ g (λ j a. net_sound k (net_given j.board i l r lo hi w) w j a)
step_sound k s (Is.Block t a b) g = filled_sound k s _ g (λ j c. block_sound k (block_of t a b) j c)
step_sound k s Is.Close g = filled_sound k s _ g (λ j a. a)
step_sound k s Is.Other g = not_form k
