-- The verdict on a layout text: sound, or the first line at which a rule is broken. Document 01, "Operations", check, and order 3.
use Rattle.std.specs.Prelude.{ℕ, suc, ◌+◌, Bool, true, false, not, cond, ◌&&◌, ◌||◌, List, [], ◌∷◌, ◌++◌, map, eqb, leb, ltb, Option, None, Some}
use Rattle.lists.specs.Lists.{any_of, all_of}
use Rattle.board.specs.Job.{Job}
use Rattle.board.specs.Placement.{Placement, bottom}
use Rattle.board.specs.Tests.{is_long, is_short, is_clear, is_on, is_ready}
use Rattle.layout.specs.Tree.{Wire, Line, opens, track, wire, loose, closes}
use Rattle.sound.specs.Wires.{weight_of, wire_numbers}
use Rattle.drc.specs.Standing.{lines_read, Above, before_layout, in_layout, behind_layout, with_line, numbers_above}
use Rattle.drc.specs.Covers.{drawn_by, covers_of}

-- ---- which line can stand there

-- no loose line stands above: there are no numbers of such
unfoldable pub none_loose : List ℕ → Bool
none_loose [] = true
none_loose (k ∷ ks) = false

-- the line can end the wires of track t: the next track line in turn or, behind track K, a loose line or `)`
unfoldable pub ends_track : Job → ℕ → Line → Bool
ends_track job t opens = false
ends_track job t (track u s) = eqb u (suc t) && leb u job.board.tracks
ends_track job t (wire w) = false
ends_track job t (loose k) = eqb t job.board.tracks
ends_track job t closes = eqb t job.board.tracks

-- the line can stand behind track line t (0 before the first), where `wires_go_on` tells whether no loose line stands above
unfoldable pub is_in_turn : Job → ℕ → Bool → Line → Bool
is_in_turn job t wires_go_on opens = false
is_in_turn job t wires_go_on (track u s) = wires_go_on && ends_track job t (track u s)
is_in_turn job t wires_go_on (wire w) = wires_go_on && leb 1 t && leb t job.board.tracks
is_in_turn job t wires_go_on (loose k) = ends_track job t (loose k)
is_in_turn job t wires_go_on closes = ends_track job t closes

-- the line is `(layout`
unfoldable pub is_opening : Line → Bool
is_opening opens = true
is_opening (track u s) = false
is_opening (wire w) = false
is_opening (loose k) = false
is_opening closes = false

-- the line can stand below a
unfoldable pub is_in_place : Job → Above → Line → Bool
is_in_place job before_layout x = is_opening x
is_in_place job (in_layout t earlier ws ns) x = is_in_turn job t (none_loose ns) x
is_in_place job behind_layout x = false

-- ---- the rules

-- the number s of track line t is the sum of its wires, of which `sum` has those above the lines ls; where the text ends behind
-- the wires, or the line there is not of the form or cannot stand, the sum is not judged
unfoldable pub is_true_sum : Job → ℕ → ℕ → ℕ → List (Option Line) → Bool
is_true_sum job t s sum [] = true
is_true_sum job t s sum (None ∷ ls) = true
is_true_sum job t s sum (Some (wire w) ∷ ls) = is_true_sum job t s (sum + weight_of job w.number) ls
is_true_sum job t s sum (Some opens ∷ ls) = true
is_true_sum job t s sum (Some (track u v) ∷ ls) = not (ends_track job t (track u v)) || eqb sum s
is_true_sum job t s sum (Some (loose k) ∷ ls) = not (ends_track job t (loose k)) || eqb sum s
is_true_sum job t s sum (Some closes ∷ ls) = not (ends_track job t closes) || eqb sum s

-- p lies below all rows that a wire above it covers, so that its top row rises and no row is shared
unfoldable pub is_below : Placement → Option Placement → Bool
is_below p None = true
is_below p (Some q) = ltb (bottom q) p.top

-- p may stand on track t: its length is allowed, it is clear of blocks, its net has no line above, and every net that precedes its net
-- stands on an earlier track; `lined` has the numbers of all lines above
unfoldable pub is_sound_place : Job → ℕ → List ℕ → List ℕ → Placement → Bool
is_sound_place job t earlier lined p =
    is_long job.board p && is_short job.board p && is_clear job t p && not (is_on lined p.net) && is_ready job earlier p.net

-- a wire that draws p may stand below the wires ws of track t; one that draws none may not
unfoldable pub is_sound_wire : Job → ℕ → List ℕ → List Wire → Option Placement → Bool
is_sound_wire job t earlier ws None = false
is_sound_wire job t earlier ws (Some p) =
    is_sound_place job t earlier (earlier ++ wire_numbers ws) p && all_of (λ v. is_below p (covers_of job v)) ws

-- k is the number of a net that has no line above
unfoldable pub is_unlined : Job → List ℕ → ℕ → Bool
is_unlined job lined k = any_of (eqb k) (map (λ n. n.number) job.nets) && not (any_of (eqb k) lined)

-- a loose line of number k may stand below loose lines with the numbers ns, where `lined` has the numbers of all lines above
unfoldable pub is_sound_loose : Job → List ℕ → List ℕ → ℕ → Bool
is_sound_loose job lined ns k = is_unlined job lined k && all_of (λ j. ltb j k) ns

-- line x, which can stand below a and has the lines ls below it, keeps the rules
unfoldable pub keeps_rules : Job → Above → Line → List (Option Line) → Bool
keeps_rules job before_layout x ls = true
keeps_rules job behind_layout x ls = true
keeps_rules job (in_layout t earlier ws ns) opens ls = true
keeps_rules job (in_layout t earlier ws ns) (track u s) ls = is_true_sum job u s 0 ls
keeps_rules job (in_layout t earlier ws ns) (wire w) ls = is_sound_wire job t earlier ws (drawn_by job t w)
keeps_rules job (in_layout t earlier ws ns) (loose k) ls = is_sound_loose job (numbers_above earlier ws ns) ns k
keeps_rules job (in_layout t earlier ws ns) closes ls = all_of (is_on (numbers_above earlier ws ns)) job.nets

-- ---- the verdict

-- sound, or broken with a line
pub data Verdict : Type 0 where
  sound_text : Verdict
  broken_at : (line : ℕ) → Verdict

-- the verdict at the end of the text, where n is the line after the last: broken there if the text stops early
unfoldable pub at_text_end : ℕ → Above → Verdict
at_text_end n before_layout = broken_at n
at_text_end n (in_layout t earlier ws ns) = broken_at n
at_text_end n behind_layout = sound_text

-- the verdict on the lines from line n on, which have a above them: the first that is broken
unfoldable pub judge_from : Job → ℕ → Above → List (Option Line) → Verdict
judge_from job n a [] = at_text_end n a
judge_from job n a (None ∷ ls) = broken_at n
judge_from job n a (Some x ∷ ls) =
    let rest = judge_from job (suc n) (with_line a x) ls in
    cond (is_in_place job a x && keeps_rules job a x ls) rest (broken_at n)

-- the verdict on a layout text
unfoldable pub judge : Job → List ℕ → Verdict
judge job text = judge_from job 1 before_layout (lines_read text)
