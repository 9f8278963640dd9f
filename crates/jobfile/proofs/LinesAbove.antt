-- What the lines above hold, and what one line more adds to it. Assumes nothing.
use mathlib.Core.Path.{◌≡◌, refl, ◌∙◌}
use mathlib.Core.Bool.{false}
use mathlib.Core.List.{List, [], ◌∷◌, ◌++◌, append-nil}
use Rattle.lists.specs.Lists.{Each}
use Rattle.lists.proofs.Cases.{by_test}
use Rattle.board.specs.Job.{Job}
use Rattle.jobfile.specs.declared.Form.{Form}
use Rattle.jobfile.specs.declared.Form.TheVariants as Is
use Rattle.jobfile.specs.Read.{State, start, opened, sized, filled, closed, board_of, empty_job}
use Rattle.jobfile.specs.Answers.{no_job}
use Rattle.jobfile.specs.Faults.{with_form, job_from, job_in, is_blank, non_blank, Item, Ordered}
use Rattle.lists.proofs.Joins.{Each-join, Each-right}

-- the lines that lead to a state
abbrev pub LinesReach : State → List Form → Type 0
LinesReach start fs = (non_blank fs ≡ []) × (job_in fs ≡ no_job)
LinesReach opened fs = (non_blank fs ≡ Is.Board ∷ []) × (job_in fs ≡ no_job)
LinesReach (sized h) fs = (non_blank fs ≡ Is.Board ∷ Is.Rows h ∷ []) × (job_in fs ≡ empty_job (board_of h 0))
LinesReach (filled job) fs = Ordered [] fs × (job_in fs ≡ job)
LinesReach (closed job) fs = Ordered (Is.Close ∷ []) fs × (job_in fs ≡ job)

-- one line more
pub job_more : (job : Job) (fs : List Form) (f : Form) → job_from job (fs ++ (f ∷ [])) ≡ with_form (job_from job fs) f
unfolding job_from
job_more job [] f = refl
job_more job (x ∷ fs) f = job_more (with_form job x) fs f

pub lines_more : (fs : List Form) (f : Form) → is_blank f ≡ false → non_blank (fs ++ (f ∷ [])) ≡ non_blank fs ++ (f ∷ [])
unfolding non_blank
lines_more [] f h = rw h
lines_more (x ∷ fs) f h =
    let t = lines_more fs f h in
    by_test (is_blank x) (λ e. rw e t) (λ e. rw e (rw t))

lines_blank : (fs : List Form) → non_blank (fs ++ (Is.Blank ∷ [])) ≡ non_blank fs
unfolding non_blank
lines_blank [] = refl
lines_blank (x ∷ fs) =
    let t = lines_blank fs in
    by_test (is_blank x) (λ e. rw e t) (λ e. rw e (rw t))

pub ordered_item : (fs : List Form) (f : Form) → is_blank f ≡ false → Item f → Ordered [] fs → Ordered [] (fs ++ (f ∷ []))
ordered_item fs f h i a =
    record {
      rows = a.rows;
      tracks = a.tracks;
      items = a.items ++ (f ∷ []);
      lines_are = lines_more fs f h ∙ (rw (a.lines_are, append-nil a.items, append-nil (a.items ++ (f ∷ []))));
      items_are = Each-join Item a.items (f ∷ []) a.items_are (i, tt);
    }

pub ordered_close : (fs : List Form) → Ordered [] fs → Ordered (Is.Close ∷ []) (fs ++ (Is.Close ∷ []))
ordered_close fs a =
    record {
      rows = a.rows;
      tracks = a.tracks;
      items = a.items;
      lines_are = lines_more fs Is.Close refl ∙ (rw (a.lines_are, append-nil a.items));
      items_are = a.items_are;
    }

ordered_blank : (last fs : List Form) → Ordered last fs → Ordered last (fs ++ (Is.Blank ∷ []))
ordered_blank last fs a =
    record {
      rows = a.rows;
      tracks = a.tracks;
      items = a.items;
      lines_are = lines_blank fs ∙ a.lines_are;
      items_are = a.items_are;
    }

-- a blank line changes nothing
pub reached_blank : (s : State) (fs : List Form) → LinesReach s fs → LinesReach s (fs ++ (Is.Blank ∷ []))
unfolding with_form
reached_blank start fs r = (lines_blank fs ∙ r.0, job_more no_job fs Is.Blank ∙ r.1)
reached_blank opened fs r = (lines_blank fs ∙ r.0, job_more no_job fs Is.Blank ∙ r.1)
reached_blank (sized h) fs r = (lines_blank fs ∙ r.0, job_more no_job fs Is.Blank ∙ r.1)
reached_blank (filled job) fs r = (ordered_blank [] fs r.0, job_more no_job fs Is.Blank ∙ r.1)
reached_blank (closed job) fs r = (ordered_blank (Is.Close ∷ []) fs r.0, job_more no_job fs Is.Blank ∙ r.1)

-- lines cannot be of two lengths; nor end in a net or block and in the closing bracket
no_close : Item Is.Close → ⊥
no_close i = elim i [ ]

pub not_both : (fs : List Form) → Ordered [] fs → Ordered (Is.Close ∷ []) fs → ⊥
not_both fs a b =
    let p = a.lines_are in
    let q = b.lines_are in
    let e : b.items ++ (Is.Close ∷ []) ≡ a.items ++ [] = cc in
    let t : Each Item (b.items ++ (Is.Close ∷ [])) = rw (e, append-nil a.items) a.items_are in
    no_close (Each-right Item b.items (Is.Close ∷ []) t).0
