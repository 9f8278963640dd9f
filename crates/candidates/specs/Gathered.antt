-- The candidates for a track by value, held against the model: the eligible nets of the job, in their order.
use Rattle.std.specs.Prelude.{ℕ, suc, ◌+◌, ◌*◌, ◌-◌, ◌≤◌, ◌≡◌, cond, List, [], ◌∷◌, ◌++◌, map, length, get_or, take, drop, Bool, true, false, Option, None, Some}
use Rattle.board.specs.declared.Board.{Board}
use Rattle.board.specs.declared.Net.{Net}
use Rattle.board.specs.Length.{shortest, needed}
use Rattle.board.specs.Weight.{weight}
use Rattle.board.specs.Job.{Job}
use Rattle.board.specs.Placement.{first_top, last_top}
use Rattle.board.specs.Tests.{is_eligible, clear_rows}
use Rattle.blockmap.specs.declared.BlockMap.{BlockMap}
use Rattle.blockmap.specs.Bits.{MapOf}
use Rattle.blockmap.specs.Clear.{all_unset, flag_tops}
use Rattle.candidates.specs.declared.Candidate.{Candidate}
use Rattle.candidates.specs.SlotArrays.{Candidates}
use Rattle.candidates.specs.declared.NetTops.{NetTops}
use Rattle.board.specs.declared.Wired.{Wired}
use Rattle.candidates.specs.Placed.{has_blocks, Placed, placed_numbers}
pub use Rattle.blockmap.specs.Clear.{flag}

-- an eligible net: one net, and its index among the nets of the job
pub record Eligible : Type 0 where
  pub index : ℕ
  pub net : Net

-- the eligible nets among ns, in their order, where the first of ns has index i
unfoldable pub eligible_from : Job → List ℕ → ℕ → List Net → List Eligible
eligible_from job earlier i [] = []
eligible_from job earlier i (n ∷ ns) =
    let rest = eligible_from job earlier (suc i) ns in cond (is_eligible job earlier n) (record { index = i; net = n } ∷ rest) rest

-- the eligible nets of the job for a track, where `earlier` has the numbers of the nets on earlier tracks
unfoldable pub eligible_nets : Job → List ℕ → List Eligible
eligible_nets job earlier = eligible_from job earlier 0 job.nets

-- what the choice needs of net n: its needed rows, its weight, and its first and last top row at its shortest length
unfoldable pub tops_of : Board → Net → NetTops
tops_of board n =
    let s = shortest board n in
    record {
      need = needed board n;
      weight = weight n;
      first = record { 0 = first_top n s };
      last = record { 0 = last_top board n s };
    }

-- the candidate that an eligible net is
abbrev pub candidate_of : Board → Eligible → Candidate
candidate_of board x = record { net = x.index; tops = tops_of board x.net }

-- what a slot holds in which no candidate was put
abbrev pub no_candidate : Candidate
no_candidate = record { net = 0; tops = record { need = 0; weight = 0; first = record { 0 = 0 }; last = record { 0 = 0 } } }

-- slot i holds the eligible net x; byte i * 1024 + (top − 1) of the flags tells whether it is clear of blocks at each of its tops
pub record Slot (job : Job) (t : ℕ) (c : Candidates) (flags : List ℕ) (i : ℕ) (x : Eligible) : Type 0 where
  pub here : get_or c.slots i no_candidate ≡ candidate_of job.board x
  pub clear : (top : ℕ) → (tops_of job.board x.net).first.0 ≤ top → top ≤ (tops_of job.board x.net).last.0 →
      get_or flags (i * 1024 + (top - 1)) 0 ≡ flag (clear_rows job t top (needed job.board x.net))

-- the slots from i on hold the eligible nets xs
abbrev pub Slots : Job → ℕ → Candidates → List ℕ → ℕ → List Eligible → Type 0
Slots job t c flags i [] = Unit {0}
Slots job t c flags i (x ∷ xs) = Slot job t c flags i x × Slots job t c flags (suc i) xs

-- the slots hold exactly the eligible nets for track t, where `earlier` has the numbers of the nets on earlier tracks
pub record Gathered (job : Job) (earlier : List ℕ) (t : ℕ) (c : Candidates) (flags : List ℕ) : Type 0 where
  pub count_is : c.count ≡ length (eligible_nets job earlier)
  pub slots : Slots job t c flags 0 (eligible_nets job earlier)

-- the candidates that the eligible nets xs are, in the first slots; every slot behind them holds what it held
unfoldable pub candidates_over : List Candidate → Board → List Eligible → Candidates
candidates_over old board xs = record { count = length xs; slots = map (candidate_of board) xs ++ drop (length xs) old }

-- the blocks of track t by value: none, or the map of the rows that they close
abbrev pub BlocksOf : Job → ℕ → Option BlockMap → Type 0
BlocksOf job t None = has_blocks job t ≡ false
BlocksOf job t (Some map) = MapOf job t map.words

-- the blocks by value leave the m rows from `top` on free
abbrev pub leave_free : Option BlockMap → ℕ → ℕ → Bool
leave_free None top m = true
leave_free (Some map) top m = all_unset map.words top m

-- the bytes with f done to the 1,024 of part i, every other as it was
unfoldable pub on_part : ℕ → (List ℕ → List ℕ) → List ℕ → List ℕ
on_part i f bytes = take (i * 1024) bytes ++ (f (take 1024 (drop (i * 1024) bytes)) ++ drop 1024 (drop (i * 1024) bytes))

-- the flags with those of the tops of the eligible net x in part i
unfoldable pub flag_slot : Job → ℕ → ℕ → Eligible → List ℕ → List ℕ
flag_slot job t i x =
    let n = x.net in
    let s = shortest job.board n in
    on_part i (flag_tops (λ top. clear_rows job t top (needed job.board n)) (first_top n s) (last_top job.board n s + 1 - first_top n s))

-- the flags with those of the eligible nets xs in the parts from i on
unfoldable pub flag_slots : Job → ℕ → ℕ → List Eligible → List ℕ → List ℕ
flag_slots job t i [] bytes = bytes
flag_slots job t i (x ∷ xs) bytes = flag_slots job t (suc i) xs (flag_slot job t i x bytes)

-- what `gather` makes of the slots `old` and the flags `before`, where stands[k] tells where the wire of net k stands: candidates and flags,
-- every slot and every byte of them, and so the eligible nets for every list of the nets with a wire
pub record GatheredFrom (job : Job) (stands : List (Option Wired)) (t : ℕ) (old : List Candidate) (before : List ℕ) (c : Candidates) (after : List ℕ) : Type 0 where
  pub candidates : c ≡ candidates_over old job.board (eligible_nets job (placed_numbers job stands))
  pub bytes : after ≡ flag_slots job t 0 (eligible_nets job (placed_numbers job stands)) before
  pub gathered : (earlier : List ℕ) → Placed job stands earlier → Gathered job earlier t c after
