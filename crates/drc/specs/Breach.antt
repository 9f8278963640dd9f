-- The lines at which a rule is broken: document 01, "A sound layout" and "Operations", check, and order 3. Nothing here judges.
use Rattle.std.specs.Prelude.{ℕ, suc, ◌≤◌, ◌≡◌, Option, None, Some}
use mathlib.Core.List.{List, [], ◌∷◌, ◌++◌, map, Memᴰ}
use Rattle.board.specs.declared.Net.{Net}
use Rattle.board.specs.Length.{upper, lower}
use Rattle.board.specs.Job.{Job}
use Rattle.board.specs.Placement.{Placement, Legal, Clear, bottom}
use Rattle.board.specs.Precedence.{Precedes}
use Rattle.layout.specs.Tree.{Wire, Line, track, wire, loose, closes}
use Rattle.layout.specs.Drawing.{wire_of}
use Rattle.sound.specs.Wires.{wire_numbers, wires_sum}
use Rattle.drc.specs.Standing.{lines_read, Above, before_layout, in_layout, behind_layout, with_line, numbers_above, CanStand}

-- ---- a track line

-- a line that ends the wires of a track
pub data EndsWires : Line → Type 0 where
  next_track : {u s : ℕ} → EndsWires (track u s)
  first_loose : {k : ℕ} → EndsWires (loose k)
  last_line : EndsWires closes

-- a false sum: the lines ls under track line u hold wires, then a line that can stand there, and the sum of the wires, each counted by
-- its number, is not s. The sum is not judged where the judging closes at the line behind the wires
pub record FalseSum (job : Job) (earlier : List ℕ) (u s : ℕ) (ls : List (Option Line)) : Type 0 where
  pub wires : List Wire
  pub next : Line
  pub rest : List (Option Line)
  pub lines_below : ls ≡ map (λ v. Some (wire v)) wires ++ Some next ∷ rest
  pub ends_wires : EndsWires next
  pub can_stand : CanStand job (in_layout u earlier wires []) next
  pub differs : wires_sum job wires ≡ s → ⊥

-- ---- a wire line

-- w draws the placement p of its net on track t of the board, at any length, blocked or not: it covers the rows of p
pub record Draws (job : Job) (t : ℕ) (w : Wire) (p : Placement) : Type 0 where
  pub from_track : 1 ≤ t
  pub to_track : t ≤ job.board.tracks
  pub of_job : Memᴰ p.net job.nets
  pub from_one : 1 ≤ p.top
  pub over_upper : p.top ≤ upper p.net
  pub under_lower : lower p.net ≤ bottom p
  pub to_last : bottom p ≤ job.board.rows
  pub drawn : w ≡ wire_of job.board t p

-- the rules that wire w breaks under track line t, where the wires ws stand between, wires with the numbers `earlier` on earlier tracks,
-- and loose lines with the numbers ns above
pub data WireBreach (job : Job) (t : ℕ) (earlier : List ℕ) (ws : List Wire) (ns : List ℕ) (w : Wire) : Type 0 where
  -- it draws no placement of its net at an allowed length, on the track above it, clear of blocks
  not_placed : ((p : Placement) → Memᴰ p.net job.nets → Legal job.board p → Clear job t p → w ≡ wire_of job.board t p → ⊥) →
      WireBreach job t earlier ws ns w
  -- it shares a row with a wire above it, on whichever tracks the two are drawn
  shared_row : {p q : Placement} {v : Wire} {i j : ℕ} (row : ℕ) → Draws job i w p → Memᴰ v ws → Draws job j v q →
      p.top ≤ row → row ≤ bottom p → q.top ≤ row → row ≤ bottom q → WireBreach job t earlier ws ns w
  -- its top row is not below that of some wire above it
  wrong_order : {p q : Placement} {v : Wire} {i j : ℕ} → Draws job i w p → Memᴰ v ws → Draws job j v q →
      p.top ≤ q.top → WireBreach job t earlier ws ns w
  -- its net has a line above it
  repeated_net : Memᴰ w.number (numbers_above earlier ws ns) → WireBreach job t earlier ws ns w
  -- a net that precedes its net does not stand on an earlier track
  preceding_net : {m n : Net} → Memᴰ m job.nets → Memᴰ n job.nets → n.number ≡ w.number → Precedes m n →
      (Memᴰ m.number earlier → ⊥) → WireBreach job t earlier ws ns w

-- ---- a loose line

-- the rules that a loose line of number k breaks, where wires with the numbers `wired` and loose lines with the numbers ns stand above
pub data LooseBreach (job : Job) (wired ns : List ℕ) (k : ℕ) : Type 0 where
  -- no net has the number
  other_net : (Memᴰ k (map (λ n. n.number) job.nets) → ⊥) → LooseBreach job wired ns k
  -- the net has a line above it
  loose_again : Memᴰ k (wired ++ ns) → LooseBreach job wired ns k
  -- the number is not above that of some loose line above it
  loose_order : {j : ℕ} → Memᴰ j ns → k ≤ j → LooseBreach job wired ns k

-- ---- any line

-- line x of the form, below a and with the lines ls below it, breaks a rule
pub data LineBreach (job : Job) : Above → Line → List (Option Line) → Type 0 where
  -- a false sum: at its track line
  false_sum : {t u s : ℕ} {earlier ns : List ℕ} {ws : List Wire} {ls : List (Option Line)} →
      FalseSum job (earlier ++ wire_numbers ws) u s ls → LineBreach job (in_layout t earlier ws ns) (track u s) ls
  -- a rule of wires: at the wire
  wire_rule : {t : ℕ} {earlier ns : List ℕ} {ws : List Wire} {w : Wire} {ls : List (Option Line)} →
      WireBreach job t earlier ws ns w → LineBreach job (in_layout t earlier ws ns) (wire w) ls
  -- a rule of loose lines: at the loose line
  loose_rule : {t k : ℕ} {earlier ns : List ℕ} {ws : List Wire} {ls : List (Option Line)} →
      LooseBreach job (earlier ++ wire_numbers ws) ns k → LineBreach job (in_layout t earlier ws ns) (loose k) ls
  -- a net without a line: at the closing line
  missing_net : {t : ℕ} {earlier ns : List ℕ} {ws : List Wire} {ls : List (Option Line)} {n : Net} →
      Memᴰ n job.nets → (Memᴰ n.number (numbers_above earlier ws ns) → ⊥) → LineBreach job (in_layout t earlier ws ns) closes ls

-- `BreachFrom job n a ls l`: of the lines ls, which begin with line n and have a above them, line l is broken
pub data BreachFrom (job : Job) : ℕ → Above → List (Option Line) → ℕ → Type 0 where
  -- a rule is broken at a line of the form: a wire that draws no placement which may stand there, a loose line of no net, the later of two
  -- lines that share a row, a net or the wrong order, the wire that another net precedes, the track line of a false sum, the closing line
  -- if a net is missing
  at_line : {n : ℕ} {a : Above} {x : Line} {ls : List (Option Line)} → LineBreach job a x ls → BreachFrom job n a (Some x ∷ ls) n
  -- the judging goes on past a line of the form that can stand there, broken or not
  further_down : {n l : ℕ} {a : Above} {x : Line} {ls : List (Option Line)} →
      CanStand job a x → BreachFrom job (suc n) (with_line a x) ls l → BreachFrom job n a (Some x ∷ ls) l
  -- a line of the form that cannot stand there is broken, and the judging closes
  out_of_place : {n : ℕ} {a : Above} {x : Line} {ls : List (Option Line)} → (CanStand job a x → ⊥) → BreachFrom job n a (Some x ∷ ls) n
  -- a line not of the form is broken, and the judging closes
  ill_formed : {n : ℕ} {a : Above} {ls : List (Option Line)} → BreachFrom job n a (None ∷ ls) n
  -- where the text stops early, the line after the last is broken
  stops_early : {n : ℕ} {a : Above} → (a ≡ behind_layout → ⊥) → BreachFrom job n a [] n

-- line l of the text is broken
abbrev pub Breach : Job → List ℕ → ℕ → Type 0
Breach job text l = BreachFrom job 1 before_layout (lines_read text) l
