-- What the check keeps of the lines above, by value, held against what the pass of the definitions keeps.
use Rattle.std.specs.Prelude.{ℕ, ◌≤◌, ◌<◌, ◌≡◌, List, length, get_or, Option, is_some, None, IfSome, Result, Ok, Err}
use Rattle.board.specs.declared.Track.{Track}
use Rattle.board.specs.Job.{Job}
use Rattle.board.specs.Stored.{no_net}
use Rattle.board.specs.Tests.{is_on}
use Rattle.drc.specs.Judge.{broken_at}
use Rattle.drc.specs.Pass.{Summary, PassState, unbegun, running, finished, PassStep, passes_on, decides}
use Rattle.judging.specs.declared.LinesAbove.{LinesAbove}
use Rattle.judging.specs.declared.LinesJudged.{LinesJudged}
use Rattle.judging.specs.declared.LinesJudged.TheVariants as Is
use Rattle.judging.specs.Values.{is_under, last_of, remaining_of}

-- stands[k] is the track under whose line the line of net k stands, wire or loose, if net k has a line above
pub record NetLines (job : Job) (m : Summary) (stands : List (Option Track)) : Type 0 where
  pub lined_at : (k : ℕ) → k < length job.nets → is_on m.lined (get_or job.nets k no_net) ≡ is_some (get_or stands k None)
  pub earlier_at : (k : ℕ) → k < length job.nets →
      is_on m.earlier (get_or job.nets k no_net) ≡ is_under m.track (get_or stands k None)
  pub room : length job.nets ≤ length stands
  pub to_track : (k : ℕ) → k < length job.nets → IfSome (get_or stands k None) (λ t. t.0 ≤ m.track)

-- j and `stands` keep what m keeps. Behind a broken wire only the sum of its track is still open, and `stands` no longer matters
pub record KeepsSummary (job : Job) (m : Summary) (j : LinesAbove) (stands : List (Option Track)) : Type 0 where
  pub track_is : m.track ≡ j.track.0
  pub line_is : m.line ≡ j.line
  pub remaining_is : remaining_of m.printed m.sum ≡ j.remaining
  pub lowest_is : m.lowest ≡ j.lowest.0
  pub last_is : last_of m.last ≡ j.last
  pub breach_is : m.breach ≡ j.breach
  pub lines_are : j.breach ≡ None → NetLines job m stands

-- the same of a pass wherever it stands
abbrev pub KeepsState : Job → PassState → LinesJudged → List (Option Track) → Type 0
KeepsState job unbegun Is.Unbegun stands = (length job.nets ≤ length stands) × ((k : ℕ) → get_or stands k None ≡ None)
KeepsState job (running m) (Is.Running j) stands = KeepsSummary job m j stands
KeepsState job finished Is.Finished stands = Unit {0}
KeepsState job st j stands = ⊥

-- and behind a line: what is kept where the pass goes on, and the line at which the layout is broken where the verdict stands
abbrev pub KeepsStep : Job → PassStep → Result LinesJudged ℕ → List (Option Track) → Type 0
KeepsStep job (passes_on st) (Ok j) stands = KeepsState job st j stands
KeepsStep job (decides v) (Err l) stands = v ≡ broken_at l
KeepsStep job y r stands = ⊥
