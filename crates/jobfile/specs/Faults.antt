-- Document 01, "Operations", read: what is faulty about a line, each refusal for itself, and which fault of a text comes first.
use Rattle.std.specs.Prelude.{ℕ, suc, ◌≤◌, ◌<◌, ◌≡◌, Bool, true, false, cond, length, Option, None, Some}
use mathlib.Core.List.{List, [], ◌∷◌, ◌++◌, map, Memᴰ}
use Rattle.lists.specs.Lists.{Each}
use Rattle.board.specs.declared.Net.{Net}
use Rattle.board.specs.declared.Block.{Block}
use Rattle.board.specs.declared.Shape.{Shape}
use Rattle.board.specs.Job.{Job}
use Rattle.board.specs.Length.{Allowed, needed}
use Rattle.board.specs.Accepted.{NetInRange, BlockInRange}
use Rattle.text.specs.Bytes.{lines}
use Rattle.jobfile.specs.declared.Form.{Form}
use Rattle.jobfile.specs.declared.Form.TheVariants as Is
use Rattle.jobfile.specs.declared.Refusal.{Refusal}
use Rattle.jobfile.specs.declared.Refusal.TheVariants.{TooLong, NotOfForm, OutOfRange, TooMany, NumberNotAbove, PinUsed, SameRow, NoLength, TooFewRows}
use Rattle.jobfile.specs.Forms.{read_form}
use Rattle.jobfile.specs.Read.{net_given, block_of, board_of, with_net, with_block}
use Rattle.jobfile.specs.Answers.{number_of, line_of, no_job}

-- the forms of the lines of a text
abbrev pub forms_of : List ℕ → List Form
forms_of text = map read_form (lines text)

-- the job with one form more, wherever its line stands: H, K, a net or a block
unfoldable pub with_form : Job → Form → Job
with_form job Is.Blank = job
with_form job Is.Board = job
with_form job (Is.Rows h) = record { board = board_of h job.board.tracks; nets = job.nets; blocks = job.blocks }
with_form job (Is.Tracks k) = record { board = board_of job.board.rows k; nets = job.nets; blocks = job.blocks }
with_form job (Is.Net i l r lo hi w) = with_net job (net_given job.board i l r lo hi w)
with_form job (Is.Block t a b) = with_block job (block_of t a b)
with_form job Is.Close = job
with_form job Is.Other = job

-- the job after further lines
unfoldable pub job_from : Job → List Form → Job
job_from job [] = job
job_from job (f ∷ fs) = job_from (with_form job f) fs

-- the job that the lines of a text hold
abbrev pub job_in : List Form → Job
job_in fs = job_from no_job fs

-- the form is that of a blank line
abbrev pub is_blank : Form → Bool
is_blank Is.Blank = true
is_blank Is.Board = false
is_blank (Is.Rows h) = false
is_blank (Is.Tracks k) = false
is_blank (Is.Net i l r lo hi w) = false
is_blank (Is.Block t a b) = false
is_blank Is.Close = false
is_blank Is.Other = false

-- the lines that are not blank
unfoldable pub non_blank : List Form → List Form
non_blank [] = []
non_blank (f ∷ fs) = let rest = non_blank fs in cond (is_blank f) rest (f ∷ rest)

-- the form is a net or a block
pub data Item : Form → Type 0 where
  net : {i l r lo hi : ℕ} {w : Option ℕ} → Item (Is.Net i l r lo hi w)
  block : {t a b : ℕ} → Item (Is.Block t a b)

-- the lines are `(board`, `(rows H)`, `(tracks K)`, then nets and blocks in any order, and then the lines of `last`
pub record Ordered (last fs : List Form) : Type 0 where
  pub rows : ℕ
  pub tracks : ℕ
  pub items : List Form
  pub lines_are : non_blank fs ≡ Is.Board ∷ Is.Rows rows ∷ Is.Tracks tracks ∷ (items ++ last)
  pub items_are : Each Item items

-- a line of this form may stand below the lines fs
abbrev pub MayFollow : List Form → Form → Type 0
MayFollow fs Is.Blank = Unit {0}
MayFollow fs Is.Board = non_blank fs ≡ []
MayFollow fs (Is.Rows h) = non_blank fs ≡ Is.Board ∷ []
MayFollow fs (Is.Tracks k) = (h : ℕ) × (non_blank fs ≡ Is.Board ∷ Is.Rows h ∷ [])
MayFollow fs (Is.Net i l r lo hi w) = Ordered [] fs
MayFollow fs (Is.Block t a b) = Ordered [] fs
MayFollow fs Is.Close = Ordered [] fs
MayFollow fs Is.Other = ⊥

-- a weight that a line gives is in range: from 1 to 999 where it is written
abbrev pub WeightInRange : Option ℕ → Type 0
WeightInRange None = Unit {0}
WeightInRange (Some w) = (1 ≤ w) × (w ≤ 999)

-- the faults of net n with the weight w that is given, at line k, where `job` is what stands above. `Misnumbered` is what number 5 turns away,
-- which depends on how the net comes
pub data NetFault (Misnumbered : Type 0) (job : Job) (n : Net) (w : Option ℕ) (k : ℕ) : Refusal → Type 0 where
  net_range : (NetInRange job.board n → ⊥) → NetFault Misnumbered job n w k (OutOfRange k)
  weight_range : (WeightInRange w → ⊥) → NetFault Misnumbered job n w k (OutOfRange k)
  net_count : 512 ≤ length job.nets → NetFault Misnumbered job n w k (TooMany k)
  misnumbered : Misnumbered → NetFault Misnumbered job n w k (NumberNotAbove k)
  left_used : (m : Net) → Memᴰ m job.nets → m.left.0 ≡ n.left.0 → NetFault Misnumbered job n w k (PinUsed k)
  right_used : (m : Net) → Memᴰ m job.nets → m.right.0 ≡ n.right.0 → NetFault Misnumbered job n w k (PinUsed k)
  same_row : n.left.0 ≡ n.right.0 → NetFault Misnumbered job n w k (SameRow k)
  no_length : ((s : Shape) → Allowed job.board n s → ⊥) → NetFault Misnumbered job n w k (NoLength k)
  too_few_rows : job.board.rows < needed job.board n → NetFault Misnumbered job n w k (TooFewRows k)

-- number 5 of a line: the last net above it has no smaller number
pub record NotAbove (nets : List Net) (n : Net) : Type 0 where
  pub before : List Net
  pub last : Net
  pub nets_are : nets ≡ before ++ (last ∷ [])
  pub not_above : n.number ≤ last.number

-- the faults of block b on line k, where `job` is what the lines above hold
pub data BlockFault (job : Job) (b : Block) (k : ℕ) : Refusal → Type 0 where
  block_range : (BlockInRange job.board b → ⊥) → BlockFault job b k (OutOfRange k)
  block_count : 256 ≤ length job.blocks → BlockFault job b k (TooMany k)

-- the faults of line k, of the given form, below the lines `above`
pub data LineFault (above : List Form) (k : ℕ) : Form → Refusal → Type 0 where
  not_of_form : {f : Form} → (MayFollow above f → ⊥) → LineFault above k f (NotOfForm k)
  rows_range : {h : ℕ} → ((1 ≤ h) × (h ≤ 1024) → ⊥) → LineFault above k (Is.Rows h) (OutOfRange k)
  tracks_range : {t : ℕ} → ((1 ≤ t) × (t ≤ 128) → ⊥) → LineFault above k (Is.Tracks t) (OutOfRange k)
  of_net : {i l r lo hi : ℕ} {w : Option ℕ} {o : Refusal} →
      (let job = job_in above in let n = net_given job.board i l r lo hi w in NetFault (NotAbove job.nets n) job n w k o) →
      LineFault above k (Is.Net i l r lo hi w) o
  of_block : {t a b : ℕ} {o : Refusal} → BlockFault (job_in above) (block_of t a b) k o → LineFault above k (Is.Block t a b) o

-- the faults of a text: its length, those of its lines, and, at the line after the last, that its lines are no whole job: the text ends early
-- where no line above is faulty
pub data Fault (text : List ℕ) : Refusal → Type 0 where
  too_long : 64000 < length text → Fault text TooLong
  on_line : (above below : List Form) (f : Form) {o : Refusal} → forms_of text ≡ above ++ (f ∷ below) →
      LineFault above (suc (length above)) f o → Fault text o
  ends_early : (k : ℕ) → k ≡ suc (length (forms_of text)) → (Ordered (Is.Close ∷ []) (forms_of text) → ⊥) → Fault text (NotOfForm k)

-- the fault that counts: no fault is on a line before it, and none on its line has a smaller number
pub record FirstFault (text : List ℕ) (o : Refusal) : Type 0 where
  pub fault : Fault text o
  pub first_line : (p : Refusal) → Fault text p → line_of o ≤ line_of p
  pub first_number : (p : Refusal) → Fault text p → line_of p ≡ line_of o → number_of o ≤ number_of p
