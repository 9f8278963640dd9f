-- The verdict in one pass over the lines, with nothing looked ahead and no wire looked back at: what a loop keeps of the lines above, and
-- one step of it. proofs/OnePass.antt shows that it is the same verdict.
use Rattle.std.specs.Prelude.{ℕ, suc, ◌+◌, Bool, false, cond, ◌&&◌, List, [], ◌∷◌, ◌++◌, eqb, ltb, Option, None, Some}
use Rattle.lists.specs.Lists.{all_of}
use Rattle.board.specs.Job.{Job}
use Rattle.board.specs.Placement.{Placement, bottom}
use Rattle.board.specs.Tests.{is_on}
use Rattle.layout.specs.Tree.{Wire, Line, opens, track, wire, loose, closes}
use Rattle.sound.specs.Wires.{weight_of}
use Rattle.drc.specs.Standing.{lines_read}
use Rattle.drc.specs.Covers.{drawn_by}
use Rattle.drc.specs.Judge.{is_in_turn, is_opening, is_sound_place, is_unlined, Verdict, sound_text, broken_at}

-- what is kept of the lines above, where `(layout` stands above and `)` does not
pub record Summary : Type 0 where
  -- the track of the last track line, 0 before the first
  pub track : ℕ
  -- the line that it is
  pub line : ℕ
  -- the sum that it prints
  pub printed : ℕ
  -- the sum of its wires so far
  pub sum : ℕ
  -- the numbers of the wires on earlier tracks
  pub earlier : List ℕ
  -- the numbers of all wire and loose lines
  pub lined : List ℕ
  -- the lowest row of the last wire drawn on the track, 0 where there is none
  pub lowest : ℕ
  -- the number of the last loose line, 0 where there is none
  pub last : ℕ
  -- the line of the first broken wire of the track: it is the verdict, unless the sum is false
  pub breach : Option ℕ

-- what is kept right behind `(layout`
abbrev pub empty_summary : Summary
empty_summary = record { track = 0; line = 0; printed = 0; sum = 0; earlier = []; lined = []; lowest = 0; last = 0; breach = None }

-- what is kept behind line n, a line of track u that prints the sum s
abbrev pub add_track : ℕ → ℕ → ℕ → Summary → Summary
add_track n u s m =
    record { track = u; line = n; printed = s; sum = 0; earlier = m.lined; lined = m.lined; lowest = 0; last = m.last; breach = None }

-- a wire that draws p may stand below the lines kept; one that draws none may not
unfoldable pub is_next_wire : Job → Summary → Option Placement → Bool
is_next_wire job m None = false
is_next_wire job m (Some p) = is_sound_place job m.track m.earlier m.lined p && ltb m.lowest p.top

-- the lowest row of a wire that draws a placement, or r if it draws none
unfoldable pub lowest_of : ℕ → Option Placement → ℕ
lowest_of r None = r
lowest_of r (Some p) = bottom p

-- the line of the first broken wire, where the wire of line n is the last
unfoldable pub breach_after : Option ℕ → ℕ → Bool → Option ℕ
breach_after (Some l) n passed = Some l
breach_after None n passed = cond passed None (Some n)

-- what is kept behind line n, a wire that draws p: broken or not, it counts by its number
abbrev pub add_wire : Job → ℕ → Wire → Option Placement → Summary → Summary
add_wire job n w p m =
    record {
      track = m.track;
      line = m.line;
      printed = m.printed;
      sum = m.sum + weight_of job w.number;
      earlier = m.earlier;
      lined = m.lined ++ (w.number ∷ []);
      lowest = lowest_of m.lowest p;
      last = m.last;
      breach = breach_after m.breach n (is_next_wire job m p);
    }

-- what is kept behind a loose line of number k
abbrev pub add_loose : ℕ → Summary → Summary
add_loose k m =
    record {
      track = m.track;
      line = m.line;
      printed = m.printed;
      sum = m.sum;
      earlier = m.earlier;
      lined = m.lined ++ (k ∷ []);
      lowest = m.lowest;
      last = k;
      breach = m.breach;
    }

-- where a pass stands: before `(layout`, behind it, behind `)`
pub data PassState : Type 0 where
  unbegun : PassState
  running : Summary → PassState
  finished : PassState

-- what a line leads to: the pass goes on, or the verdict stands
pub data PassStep : Type 0 where
  passes_on : PassState → PassStep
  decides : Verdict → PassStep

-- the judging closes at line n, and the sum of the last track line is not judged: a broken wire above is the verdict, or line n is
unfoldable pub closed_at : Option ℕ → ℕ → Verdict
closed_at None n = broken_at n
closed_at (Some l) n = broken_at l

-- a broken wire above is the verdict; x where there is none
unfoldable pub unless_breach : Option ℕ → PassStep → PassStep
unless_breach None x = x
unless_breach (Some l) x = decides (broken_at l)

-- where the wires of a track end, its sum is judged, at its track line, then its wires; x where nothing is broken
unfoldable pub judged_track : Summary → PassStep → PassStep
judged_track m x = cond (eqb m.sum m.printed) (unless_breach m.breach x) (decides (broken_at m.line))

-- x where line n passes its test; otherwise line n is broken
unfoldable pub or_broken : ℕ → Bool → PassStep → PassStep
or_broken n passed x = cond passed x (decides (broken_at n))

-- the step at line n, which can stand behind `(layout` and the lines above
unfoldable pub pass_in_turn : Job → ℕ → Summary → Line → PassStep
pass_in_turn job n m opens = passes_on (running m)
pass_in_turn job n m (track u s) = judged_track m (passes_on (running (add_track n u s m)))
pass_in_turn job n m (wire w) = passes_on (running (add_wire job n w (drawn_by job m.track w) m))
pass_in_turn job n m (loose k) = judged_track m (or_broken n (is_unlined job m.lined k && ltb m.last k) (passes_on (running (add_loose k m))))
pass_in_turn job n m closes = judged_track m (or_broken n (all_of (is_on m.lined) job.nets) (passes_on finished))

-- the step at line n, which is of the form
unfoldable pub pass_line : Job → ℕ → PassState → Line → PassStep
pass_line job n unbegun x = or_broken n (is_opening x) (passes_on (running empty_summary))
pass_line job n (running m) x = cond (is_in_turn job m.track (eqb m.last 0) x) (pass_in_turn job n m x) (decides (closed_at m.breach n))
pass_line job n finished x = decides (broken_at n)

-- the verdict at line n, which is not of the form
unfoldable pub pass_ill_formed : ℕ → PassState → Verdict
pass_ill_formed n unbegun = broken_at n
pass_ill_formed n (running m) = closed_at m.breach n
pass_ill_formed n finished = broken_at n

-- one step of the pass: line n as it is read
unfoldable pub pass_step : Job → ℕ → PassState → Option Line → PassStep
pass_step job n st None = decides (pass_ill_formed n st)
pass_step job n st (Some x) = pass_line job n st x

-- the verdict at the end of the text, where n is the line after the last
unfoldable pub pass_end : ℕ → PassState → Verdict
pass_end n unbegun = broken_at n
pass_end n (running m) = closed_at m.breach n
pass_end n finished = sound_text

-- the verdict stands, or the lines below give it
unfoldable pub after_step : PassStep → (PassState → Verdict) → Verdict
after_step (passes_on st) f = f st
after_step (decides v) f = v

-- the verdict of the pass over the lines from line n on
unfoldable pub pass_from : Job → ℕ → PassState → List (Option Line) → Verdict
pass_from job n st [] = pass_end n st
pass_from job n st (x ∷ ls) = after_step (pass_step job n st x) (λ next. pass_from job (suc n) next ls)

-- the verdict on a layout text, in one pass
unfoldable pub pass_over : Job → List ℕ → Verdict
pass_over job text = pass_from job 1 unbegun (lines_read text)
