-- What the statement of a starred board says of whatever its text is read as. Assumes nothing.
use Prim.Native.Nat.{ℕ, ◌+◌}
use mathlib.Core.Path.{◌≡◌, sym, ap, subst, ◌∙◌}
use mathlib.Core.Bool.{true, false, true≢false}
use mathlib.Core.Logic.{⊎_elim}
use mathlib.Core.List.{List, [], ◌∷◌, Memᴰ}
use Rattle.board.specs.declared.Net.{Net}
use Rattle.board.specs.Job.{Job}
use Rattle.board.specs.TriedBoards.{Tried}
use Rattle.jobfile.specs.declared.Refusal.{Refusal}
use Rattle.jobfile.specs.Read.{accepted, refused, read_job}
use Rattle.jobfile.specs.Answers.{number_of, line_of}
use Rattle.routing.specs.Route.{route_text}
use Rattle.starred.specs.Boards.{LaidOut, OneNet, RefusedWith}

module _ (text : List ℕ) (job : Job) (e : read_job text ≡ accepted job) where
  -- route writes the stated bytes for the job that is read
  pub laid_out : (written : List ℕ) → LaidOut text written → route_text job ≡ written
  laid_out written l =
      let q : accepted l.job ≡ accepted job = sym l.read ∙ e in
      let i : l.job ≡ job = cc in
      ap route_text (sym i) ∙ l.written_is

  -- every net of the job that is read is as stated
  pub each_net : (shortest_length stretch needed tops first last : ℕ) → OneNet text shortest_length stretch needed tops first last →
      (n : Net) → Memᴰ n job.nets → Tried job.board n shortest_length stretch needed first last
  each_net shortest_length stretch needed tops first last o n h =
      let q : accepted o.job ≡ accepted job = sym o.read ∙ e in
      let i : o.job ≡ job = cc in
      let k : Memᴰ n (o.net ∷ []) = subst (λ (ns : List Net). Memᴰ n ns) (ap (λ (j : Job). j.nets) (sym i) ∙ o.only) h in
      ⊎_elim
      (λ (s : n ≡ o.net). rw (← i, s) o.tried)
      (λ j. absurd (mathlib.Core.List.Memᴰ.not-nil j))
      (mathlib.Core.List.Memᴰ.cases_cons k)

  -- a text that is accepted is not stated to be refused
  pub not_refused : (number line : ℕ) → RefusedWith text number line → ⊥
  not_refused number line r =
      let q : refused r.outcome ≡ accepted job = sym r.read ∙ e in
      let z : true ≡ false = cc in
      true≢false z

-- a text that is refused is refused with the stated number and line
pub refused_as : (text : List ℕ) (o : Refusal) → read_job text ≡ refused o → (number line : ℕ) → RefusedWith text number line →
    (number_of o ≡ number) × (line_of o ≡ line)
refused_as text o e number line r =
    let q : refused r.outcome ≡ refused o = sym r.read ∙ e in
    let i : r.outcome ≡ o = cc in
    (ap number_of (sym i) ∙ r.number_is, ap line_of (sym i) ∙ r.line_is)

-- the stated tops, from the first to the last, are as many as stated
pub tops_counted : (text : List ℕ) (shortest_length stretch needed tops first last : ℕ) →
    OneNet text shortest_length stretch needed tops first last →
    first + tops ≡ last + 1
tops_counted text shortest_length stretch needed tops first last o = o.so_many
