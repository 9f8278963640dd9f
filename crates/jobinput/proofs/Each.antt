-- Several jobs, printed one behind another: what is printed of them, and those that are left. Assumes nothing.
use mathlib.Core.Path.{◌≡◌, refl, sym, ap, ◌∙◌}
use mathlib.Core.List.{List, [], ◌∷◌, ◌++◌, append_assoc, append-nil}
use Prim.Native.Nat.{ℕ}
use Rattle.std.specs.Prelude.{Option, Result, Ok, Err, OnOk}
use Rattle.std.specs.Result.{result_and}
use Rattle.std.specs.Io.KnownBytes.{Appends}
use Rattle.std.proofs.KnownBytes.{Appends-nil, Appends-trans}
use Rattle.board.specs.Job.{Job}
use Rattle.jobfile.specs.Read.{read_job}
use Rattle.printing.specs.Printed.{printed_text}
use Rattle.jobinput.specs.EachPrinted.{each_text}

-- what is printed of the texts `all`, where those of `left` are not yet
pub record Printing (text : Job → List ℕ) (all left : List (List ℕ)) (before after : Option (List ℕ)) : Type 0 where
  pub done : List ℕ
  pub parts : done ++ each_text text left ≡ each_text text all
  pub appended : Appends before after done

module _ {text : Job → List ℕ} {all : List (List ℕ)} {before : Option (List ℕ)} where
  pub printing_start : Printing text all all before before
  printing_start = record { done = []; parts = refl; appended = Appends-nil before }

  pub printing_more : {s : List ℕ} {left rest : List (List ℕ)} {after now : Option (List ℕ)} → left ≡ s ∷ rest → Printing text all left before after →
      Appends after now (printed_text text (read_job s)) → Printing text all rest before now
  unfolding each_text
  printing_more {s} {left} {rest} {after} {now} e p w =
      let t = printed_text text (read_job s) in
      record {
        done = p.done ++ t;
        parts = append_assoc p.done t (each_text text rest) ∙ ap (λ l. p.done ++ each_text text l) (sym e) ∙ p.parts;
        appended = Appends-trans before after now p.done t p.appended w;
      }

  pub printing_end : {left : List (List ℕ)} {after : Option (List ℕ)} → left ≡ [] → Printing text all left before after →
      Appends before after (each_text text all)
  unfolding each_text
  printing_end {left} {after} e p = rw (← p.parts, e, append-nil) p.appended

-- where both of two steps were made without a failure
pub both_done : {A E P Q R : Type 0} (d w : Result A E) → OnOk d P → OnOk w Q → (P → Q → R) → OnOk (result_and d w) R
both_done (Ok x) (Ok y) p q f = f p q
both_done (Ok x) (Err e) p q f = tt
both_done (Err e) w p q f = tt

pub on_done : {A E P Q : Type 0} (d : Result A E) → OnOk d P → (P → Q) → OnOk d Q
on_done (Ok x) p f = f p
on_done (Err e) p f = tt
