-- A line that is refused is the one that its refusal names. Assumes nothing.
use Prim.Native.Nat.{ℕ}
use mathlib.Core.Path.{◌≡◌, refl}
use mathlib.Core.Bool.{Bool, true, false}
use Rattle.board.specs.Job.{Job}
use Rattle.jobfile.specs.declared.Form.{Form}
use Rattle.jobfile.specs.declared.Form.TheVariants as Is
use Rattle.jobfile.specs.declared.Refusal.{Refusal}
use Rattle.jobfile.specs.Read.{State, start, opened, sized, filled, closed, Next, go, stop, unless, at_start, at_opened, at_sized, at_filled, test_net, add_net, add_block, step}
use Rattle.jobfile.specs.Answers.{line_of}

-- what a line leads to names line k, where it is a refusal
abbrev pub OnLine : ℕ → Next → Type 0
OnLine k (go s) = Unit {0}
OnLine k (stop o) = line_of o ≡ k

unless_on : (k : ℕ) (b : Bool) (o : Refusal) (x : Next) → line_of o ≡ k → OnLine k x → OnLine k (unless b o x)
unfolding unless
unless_on k true o x l h = h
unless_on k false o x l h = l

start_on : (k : ℕ) (s : State) (x : Next) → OnLine k x → OnLine k (at_start k s x)
unfolding at_start
start_on k start x h = h
start_on k opened x h = refl
start_on k (sized r) x h = refl
start_on k (filled j) x h = refl
start_on k (closed j) x h = refl

opened_on : (k : ℕ) (s : State) (x : Next) → OnLine k x → OnLine k (at_opened k s x)
unfolding at_opened
opened_on k start x h = refl
opened_on k opened x h = h
opened_on k (sized r) x h = refl
opened_on k (filled j) x h = refl
opened_on k (closed j) x h = refl

sized_on : (k : ℕ) (s : State) (f : ℕ → Next) → ((r : ℕ) → OnLine k (f r)) → OnLine k (at_sized k s f)
unfolding at_sized
sized_on k start f h = refl
sized_on k opened f h = refl
sized_on k (sized r) f h = h r
sized_on k (filled j) f h = refl
sized_on k (closed j) f h = refl

filled_on : (k : ℕ) (s : State) (f : Job → Next) → ((j : Job) → OnLine k (f j)) → OnLine k (at_filled k s f)
unfolding at_filled
filled_on k start f h = refl
filled_on k opened f h = refl
filled_on k (sized r) f h = refl
filled_on k (filled j) f h = h j
filled_on k (closed j) f h = refl

pub step_on : (k : ℕ) (s : State) (x : Form) → OnLine k (step k s x)
unfolding step add_net test_net add_block
step_on k s Is.Blank = tt
step_on k s Is.Board = start_on k s (go opened) tt
step_on k s (Is.Rows h) = opened_on k s _ (unless_on k _ _ (go (sized h)) refl tt)
step_on k s (Is.Tracks t) = sized_on k s _ (λ h. unless_on k _ _ _ refl tt)
step_on k s (Is.Net i l r lo hi w) =
    filled_on k s _ (λ j.
    unless_on k _ _ _ refl
    (unless_on k _ _ _ refl
    (unless_on k _ _ _ refl
    (unless_on k _ _ _ refl
    (unless_on k _ _ _ refl
    (unless_on k _ _ _ refl
    (unless_on k _ _ _ refl tt)))))))
step_on k s (Is.Block t a b) = filled_on k s _ (λ j. unless_on k _ _ _ refl (unless_on k _ _ _ refl tt))
step_on k s Is.Close = filled_on k s _ (λ j. tt)
step_on k s Is.Other = refl
