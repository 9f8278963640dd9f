-- The lines of a layout text, what stands above a line, and which line can stand there: document 01, "Drawing", and order 3.
use Rattle.std.specs.Prelude.{ℕ, suc, ◌≤◌, ◌≡◌, Bool, true, cond, List, [], ◌∷◌, ◌++◌, Option, None}
use Rattle.board.specs.Job.{Job}
use Rattle.text.specs.Bytes.{is_end, lines}
use Rattle.layout.specs.Tree.{Wire, Line, opens, track, wire, loose, closes}
use Rattle.layout.specs.ReadBack.{read_line}
use Rattle.sound.specs.Wires.{wire_numbers}

-- ---- the lines of a text. `Breach` and the verdict (`Judge`) both speak of the lines as they are read here. What pins this reading down:
-- a line is read as x exactly where it is the text of x with numbers of at most six digits (`layout`, proofs/RoundTrip.antt), and a layout is
-- sound, which is said of its whole text, exactly where no line is broken (proofs/JudgeSound.antt)

-- byte 10 ends the text; an empty text has no line without it
unfoldable pub is_ended : List ℕ → Bool
is_ended [] = true
is_ended (b ∷ []) = is_end b
is_ended (b ∷ c ∷ bs) = is_ended (c ∷ bs)

-- each line as it is read, `none` where it is not of the form; a last line is not of the form unless byte 10 ends it
unfoldable pub read_each : Bool → List (List ℕ) → List (Option Line)
read_each ended [] = []
read_each ended (s ∷ []) = cond ended (read_line s) None ∷ []
read_each ended (s ∷ r ∷ rest) = read_line s ∷ read_each ended (r ∷ rest)

-- the lines of a layout text as they are read
unfoldable pub lines_read : List ℕ → List (Option Line)
lines_read text = read_each (is_ended text) (lines text)

-- ---- what stands above a line

-- nothing; or `(layout` and lines behind it: track line t is the last (0 before the first), wires with the numbers `earlier` stand on
-- earlier tracks, the wires ws under track line t, loose lines with the numbers ns behind them; or a whole layout with its `)`
pub data Above : Type 0 where
  before_layout : Above
  in_layout : (t : ℕ) (earlier : List ℕ) (ws : List Wire) (ns : List ℕ) → Above
  behind_layout : Above

-- what stands above the next line, where line x stands below what stood above it
unfoldable pub with_line : Above → Line → Above
with_line before_layout x = in_layout 0 [] [] []
with_line behind_layout x = behind_layout
with_line (in_layout t earlier ws ns) opens = in_layout t earlier ws ns
with_line (in_layout t earlier ws ns) (track u s) = in_layout u (earlier ++ wire_numbers ws) [] ns
with_line (in_layout t earlier ws ns) (wire w) = in_layout t earlier (ws ++ (w ∷ [])) ns
with_line (in_layout t earlier ws ns) (loose k) = in_layout t earlier ws (ns ++ (k ∷ []))
with_line (in_layout t earlier ws ns) closes = behind_layout

-- the numbers of all lines above, wires and loose nets
abbrev pub numbers_above : List ℕ → List Wire → List ℕ → List ℕ
numbers_above earlier ws ns = (earlier ++ wire_numbers ws) ++ ns

-- ---- which line can stand there

-- `(layout` first and nowhere else; tracks 1 to K in turn, before any loose line; wires under a track line, before any loose line; loose
-- lines and `)` behind the line of track K; nothing behind `)`
pub data CanStand (job : Job) : Above → Line → Type 0 where
  opening_first : CanStand job before_layout opens
  track_in_turn : {t u s : ℕ} {earlier : List ℕ} {ws : List Wire} → u ≡ suc t → u ≤ job.board.tracks →
      CanStand job (in_layout t earlier ws []) (track u s)
  wire_under_track : {t : ℕ} {earlier : List ℕ} {ws : List Wire} {w : Wire} → 1 ≤ t → t ≤ job.board.tracks →
      CanStand job (in_layout t earlier ws []) (wire w)
  loose_behind_tracks : {t k : ℕ} {earlier ns : List ℕ} {ws : List Wire} → t ≡ job.board.tracks →
      CanStand job (in_layout t earlier ws ns) (loose k)
  closing_behind_tracks : {t : ℕ} {earlier ns : List ℕ} {ws : List Wire} → t ≡ job.board.tracks →
      CanStand job (in_layout t earlier ws ns) closes
