-- The tests of a line worked out on values: on the index of a net, the block map of a track and the track line above the line of each net.
use Rattle.std.specs.Prelude.{ℕ, ◌+◌, ◌-◌, ◌<◌, ◌≡◌, Bool, true, false, cond, ◌&&◌, List, position, eqb, leb, ltb, length, get_or, Option, None, Some, is_none, unwrap_or}
use Rattle.board.specs.declared.BoardNet.{BoardNet}
use Rattle.board.specs.declared.Net.{Net}
use Rattle.board.specs.declared.Shape.{Shape}
use Rattle.board.specs.declared.Track.{Track}
use Rattle.board.specs.declared.Wired.{Wired}
use Rattle.board.specs.Job.{Job}
use Rattle.board.specs.Length.{length_of}
use Rattle.board.specs.Placement.{covered}
use Rattle.board.specs.Stored.{no_net}
pub use Rattle.blockmap.specs.Bits.{MapOf}
use Rattle.blockmap.specs.Clear.{all_unset}
use Rattle.candidates.specs.Placed.{before_in, none_or}
use Rattle.layout.specs.Tree.{Line, loose, closes}
use Rattle.judging.specs.declared.LinesAbove.{LinesAbove}
use Rattle.judging.specs.declared.LinesJudged.{LinesJudged}
use Rattle.judging.specs.declared.LinesJudged.TheVariants as Is
use Rattle.judging.specs.declared.found.NetFound.{NetFound}

-- the net has number k
abbrev pub is_numbered : ℕ → Net → Bool
is_numbered k n = eqb n.number k

-- the index of the first net with number k, if a net has it
unfoldable pub position_numbered : ℕ → List Net → Option ℕ
position_numbered k ns = position (is_numbered k) ns

-- min ≤ length ≤ max
unfoldable pub is_allowed : BoardNet → Shape → Bool
is_allowed n s = leb n.net.min (length_of n.board n.net s) && leb (length_of n.board n.net s) n.net.max

-- a line stands above, and under the line of a track before `track`: `stood` is the track under whose line it stands
abbrev pub is_under : ℕ → Option Track → Bool
is_under track None = false
is_under track (Some t) = ltb t.0 track

-- the net that precedes, if there is one, has its line on an earlier track than `track`
abbrev pub ready_at : Option ℕ → List (Option Track) → Track → Bool
ready_at before stands track = none_or (λ i. is_under track.0 (get_or stands i None)) before

-- a wire of the net found, where it stands, may stand below the lines that j keeps
unfoldable pub is_next_at : List ℕ → List (Option Track) → NetFound → Wired → LinesAbove → Bool
is_next_at words stands found wired j =
    is_allowed found.net wired.shape && all_unset words wired.top.0 (covered found.net.net wired.shape) && is_none (get_or stands found.index None) &&
    ready_at found.before stands j.track && ltb j.lowest.0 wired.top.0

-- the track of the last track line, 0 where no track is judged
abbrev pub track_of : LinesJudged → Track
track_of Is.Unbegun = record { 0 = 0 }
track_of (Is.Running j) = j.track
track_of Is.Finished = record { 0 = 0 }

-- the line at which the layout is broken where the judging closes at line n: the first broken wire of the track, or line n
abbrev pub closed_of : LinesJudged → ℕ → ℕ
closed_of Is.Unbegun n = n
closed_of (Is.Running j) n = unwrap_or j.breach n
closed_of Is.Finished n = n

-- the number of the last loose line, if one stands above, where `last` is 0 if none does
unfoldable pub last_of : ℕ → Option ℕ
last_of last = cond (eqb last 0) None (Some last)

-- what remains of a printed sum where the wires so far add up to `sum`; none where they add up to more
unfoldable pub remaining_of : ℕ → ℕ → Option ℕ
remaining_of printed sum = cond (leb sum printed) (Some (printed - sum)) None

-- and behind one more wire, of weight w
abbrev pub remaining_after : Option ℕ → ℕ → Option ℕ
remaining_after None w = None
remaining_after (Some n) w = remaining_of n w

-- nothing remains, so that the sum is that of the wires
abbrev pub is_used_up : Option ℕ → Bool
is_used_up None = false
is_used_up (Some n) = eqb n 0

-- the line at which the track is broken where its wires end: its track line if its sum is false, its first broken wire if it has one
abbrev pub broken_track : LinesAbove → Option ℕ
broken_track j = cond (is_used_up j.remaining) j.breach (Some j.line)

-- the line of track u can stand behind the lines that j keeps, on a board with k tracks
abbrev pub is_track_turn : ℕ → LinesAbove → ℕ → Bool
is_track_turn k j u = is_none j.last && ltb j.track.0 k && eqb u (j.track.0 + 1)

-- a wire can stand behind the lines that j keeps, on a board with k tracks
abbrev pub is_wire_turn : ℕ → LinesAbove → Bool
is_wire_turn k j = is_none j.last && leb 1 j.track.0 && leb j.track.0 k

-- a loose line, or the closing line: one that stands behind the last track
abbrev pub is_end_line : Line → Bool
is_end_line (loose i) = true
is_end_line closes = true
is_end_line x = false

-- found is the net of the job with that index, on the job's board, and the net that precedes it
pub record NetIs (job : Job) (found : NetFound) : Type 0 where
  pub index_range : found.index < length job.nets
  pub board_is : job.board ≡ found.net.board
  pub net_is : get_or job.nets found.index no_net ≡ found.net.net
  pub before_is : found.before ≡ before_in job.nets found.net.net
