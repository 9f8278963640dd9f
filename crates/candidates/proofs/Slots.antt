-- Gathering slot after slot: the candidates and the flags with one more candidate, and what stands in each slot afterwards. Assumes nothing.
use Prim.Native.Nat.{ℕ, zero, suc, ◌+◌, ◌*◌, ◌-◌, ◌≤◌, ◌<◌}
use mathlib.Core.Path.{◌≡◌, refl, sym, ap, ◌∙◌}
use mathlib.Core.Bool.{Bool, true, false}
use Rattle.std.specs.Prelude.{Option, None, Some}
use Rattle.candidates.proofs.TrackBlocks.{none_blocked}
use mathlib.Core.List.{List, [], ◌∷◌, ◌++◌, map, map-append}
use native.Mathlib.Omega.{arith}
use lib.ListN.{length, get_or, take, drop, set, length-append, length-map, length-drop}
use lib.Seq.{length-take-le, append_snoc}
use Rattle.board.specs.declared.Board.{Board}
use Rattle.board.specs.Length.{shortest, needed}
use Rattle.board.specs.Job.{Job}
use Rattle.board.specs.Placement.{first_top, last_top}
use Rattle.board.specs.Accepted.{AcceptedJob}
use Rattle.board.proofs.Tops.{first_top_one, top_range}
use Rattle.board.specs.Tests as tests
use Rattle.blockmap.specs.declared.BlockMap.{BlockMap}
use Rattle.blockmap.specs.Clear.{flag, flag_tops}
use Rattle.blockmap.proofs.ClearRows.{clear_same}
use Rattle.blockmap.proofs.ClearTops.{flags_same, flags_length, flags_at}
use Rattle.candidates.specs.declared.Candidate.{Candidate}
use Rattle.candidates.specs.SlotArrays.{Candidates, with_value}
use Rattle.candidates.specs.Placed.{has_blocks}
use Rattle.candidates.specs.Gathered.{Eligible, tops_of, candidate_of, no_candidate, candidates_over, BlocksOf, leave_free, on_part, flag_slot, flag_slots, Slot, Slots, Gathered, eligible_from, eligible_nets}
use Rattle.candidates.proofs.Prefixes.{over_more}
use Rattle.candidates.proofs.Eligible.{eligible_length}
use Rattle.candidates.proofs.FlagParts.{part_same, part_length, part_at, part_below}

-- ---- one more candidate
pub slots_put : (old : List Candidate) (board : Board) (c : Candidates) (xs : List Eligible) (x : Eligible) → c ≡ candidates_over old board xs → length xs < length old
    → with_value c (candidate_of board x) ≡ candidates_over old board (xs ++ (x ∷ []))
unfolding candidates_over with_value
slots_put old board c xs x e h =
    let n : length xs + 1 ≡ length (xs ++ (x ∷ [])) = sym (length-append xs (x ∷ [])) in
    let f : Eligible → Candidate = λ y. candidate_of board y in
    let s : set (map f xs ++ drop (length xs) old) (length xs) (f x) ≡ map f (xs ++ (x ∷ [])) ++ drop (length xs + 1) old =
    rw (map-append f xs (x ∷ [])) (over_more no_candidate (length xs) (f x) (map f xs) old (length-map xs f) h) in
    ap (λ d. with_value d (f x)) e
    ∙ (λ i. record { count = n i; slots = (s ∙ ap (λ k. map f (xs ++ (x ∷ [])) ++ drop k old) n) i })

-- ---- the flags of one more candidate
-- where no block is on the track, no row is closed
none_closed : (job : Job) (t : ℕ) → has_blocks job t ≡ false → (row m : ℕ) → true ≡ tests.clear_rows job t row m
unfolding tests.clear_rows
none_closed job t none row zero = refl
none_closed job t none row (suc m) = rw (none_blocked job t none row) (none_closed job t none (suc row) m)

-- the blocks by value leave free what the job does
free_same : (job : Job) (t : ℕ) (map : Option BlockMap) → BlocksOf job t map → (top m : ℕ) → leave_free map top m ≡ tests.clear_rows job t top m
free_same job t None none top m = none_closed job t none top m
free_same job t (Some map) is top m = clear_same job t map.words is top m

-- part i, flagged by the blocks by value, is that of the candidate
pub slot_flagged : (job : Job) (t : ℕ) (map : Option BlockMap) → BlocksOf job t map
    → (x : Eligible) (i : ℕ) (bytes : List ℕ) → let tops = tops_of job.board x.net in
    on_part i (flag_tops (λ top. leave_free map top tops.need) tops.first.0 (tops.last.0 + 1 - tops.first.0)) bytes ≡ flag_slot job t i x bytes
unfolding flag_slot tops_of
slot_flagged job t map is x i bytes =
    let first = first_top x.net (shortest job.board x.net) in
    let count = last_top job.board x.net (shortest job.board x.net) + 1 - first in
    let need = needed job.board x.net in
    let new : ℕ → Bool = λ top. tests.clear_rows job t top need in
    part_same i (flag_tops (λ top. leave_free map top need) first count) (flag_tops new first count) bytes
    (λ part. flags_same (λ top. leave_free map top need) new first count part (λ top a b. free_same job t map is top need))

pub slots_more : (job : Job) (t i : ℕ) (xs : List Eligible) (x : Eligible) (bytes : List ℕ)
    → flag_slots job t i (xs ++ (x ∷ [])) bytes ≡ flag_slot job t (i + length xs) x (flag_slots job t i xs bytes)
unfolding flag_slots
slots_more job t i [] x bytes =
    let z : i + 0 ≡ i = omega arith in
    rw z
slots_more job t i (y ∷ ys) x bytes =
    let z : suc i + length ys ≡ i + suc (length ys) = omega arith in
    rw z at (slots_more job t (suc i) ys x (flag_slot job t i y bytes))

-- ---- what stands in the slots afterwards
module _ (job : Job) (t : ℕ) where
  -- the flags of candidate x's tops
  abbrev flagged_by : Eligible → List ℕ → List ℕ
  flagged_by x =
      flag_tops (λ top. tests.clear_rows job t top (needed job.board x.net)) (first_top x.net (shortest job.board x.net))
      (last_top job.board x.net (shortest job.board x.net) + 1 - first_top x.net (shortest job.board x.net))

  flagged_length : (x : Eligible) (part : List ℕ) → length (flagged_by x part) ≡ length part
  flagged_length x part =
      flags_length (λ top. tests.clear_rows job t top (needed job.board x.net)) (first_top x.net (shortest job.board x.net))
      (last_top job.board x.net (shortest job.board x.net) + 1 - first_top x.net (shortest job.board x.net)) part

  pub slot_length : (i : ℕ) (x : Eligible) (bytes : List ℕ) → i * 1024 + 1024 ≤ length bytes → length (flag_slot job t i x bytes) ≡ length bytes
  unfolding flag_slot
  slot_length i x bytes h = part_length i (flagged_by x) bytes (flagged_length x) h

  slot_below : (i : ℕ) (x : Eligible) (bytes : List ℕ) (j : ℕ) → i * 1024 + 1024 ≤ length bytes → j < i * 1024
      → get_or (flag_slot job t i x bytes) j 0 ≡ get_or bytes j 0
  unfolding flag_slot
  slot_below i x bytes j h l = part_below i (flagged_by x) bytes (flagged_length x) h j l

  slot_at : (i : ℕ) (x : Eligible) (bytes : List ℕ) (top : ℕ) → job.board.rows ≤ 1024 → i * 1024 + 1024 ≤ length bytes
      → first_top x.net (shortest job.board x.net) ≤ top → top ≤ last_top job.board x.net (shortest job.board x.net)
      → get_or (flag_slot job t i x bytes) (i * 1024 + (top - 1)) 0 ≡ flag (tests.clear_rows job t top (needed job.board x.net))
  unfolding flag_slot
  slot_at i x bytes top rows h a b =
      let board = job.board in
      let n = x.net in
      let s = shortest board n in
      let first = first_top n s in
      let last = last_top board n s in
      let part = take 1024 (drop (i * 1024) bytes) in
      let one : 1 ≤ first = first_top_one n s in
      let p = top_range board n s top a b in
      let q : last ≤ board.rows = (top_range board n s last (omega arith) (omega arith)).to_rows in
      let size : length part ≡ 1024 = length-take-le 1024 (drop (i * 1024) bytes) (omega (arith, length-drop (i * 1024) bytes)) in
      part_at i (flagged_by x) bytes (flagged_length x) h (top - 1) (omega arith)
      ∙ flags_at (λ r. tests.clear_rows job t r (needed board n)) first (last + 1 - first) part top one a (omega arith) (omega arith)

  -- the parts from i on leave those before them
  slots_below : (i : ℕ) (xs : List Eligible) (bytes : List ℕ) (j : ℕ) → (i + length xs) * 1024 ≤ length bytes → j < i * 1024
      → get_or (flag_slots job t i xs bytes) j 0 ≡ get_or bytes j 0
  unfolding flag_slots
  slots_below i [] bytes j h l = refl
  slots_below i (x ∷ xs) bytes j h l =
      let room : i * 1024 + 1024 ≤ length bytes = omega arith in
      let size : length (flag_slot job t i x bytes) ≡ length bytes = slot_length i x bytes room in
      slots_below (suc i) xs (flag_slot job t i x bytes) j (omega arith) (omega arith) ∙ slot_below i x bytes j room l

  -- slot i among the candidates
  in_slot : (old : List Candidate) (board : Board) (pre xs : List Eligible) (x : Eligible)
      → get_or (candidates_over old board (pre ++ (x ∷ xs))).slots (length pre) no_candidate ≡ candidate_of board x
  unfolding candidates_over
  in_slot old board pre xs x = in_list pre (drop (length (pre ++ (x ∷ xs))) old)
    where
      in_list : (ps : List Eligible) (rest : List Candidate) → get_or (map (candidate_of board) (ps ++ (x ∷ xs)) ++ rest) (length ps) no_candidate ≡ candidate_of board x
      in_list [] rest = refl
      in_list (p ∷ ps) rest = in_list ps rest

  slot_holds : (old : List Candidate) → job.board.rows ≤ 1024 → (pre xs : List Eligible) (x : Eligible) (bytes : List ℕ) → (length pre + suc (length xs)) * 1024 ≤ length bytes
      → Slot job t (candidates_over old job.board (pre ++ (x ∷ xs))) (flag_slots job t (suc (length pre)) xs (flag_slot job t (length pre) x bytes)) (length pre) x
  unfolding tops_of
  slot_holds old rows pre xs x bytes room =
      let i = length pre in
      let part : i * 1024 + 1024 ≤ length bytes = omega arith in
      let size : length (flag_slot job t i x bytes) ≡ length bytes = slot_length i x bytes part in
      record {
        here = in_slot old job.board pre xs x;
        clear = λ top a b.
            let p = top_range job.board x.net (shortest job.board x.net) top a b in
            slots_below (suc i) xs (flag_slot job t i x bytes) (i * 1024 + (top - 1)) (omega arith) (omega arith)
            ∙ slot_at i x bytes top rows part a b;
      }

  pub slots_hold : (old : List Candidate) → job.board.rows ≤ 1024 → (pre xs : List Eligible) (bytes : List ℕ) → (length pre + length xs) * 1024 ≤ length bytes
      → Slots job t (candidates_over old job.board (pre ++ xs)) (flag_slots job t (length pre) xs bytes) (length pre) xs
  unfolding flag_slots
  slots_hold old rows pre [] bytes room = tt
  slots_hold old rows pre (x ∷ xs) bytes room =
      let n : length (pre ++ (x ∷ [])) ≡ suc (length pre) = length-append pre (x ∷ []) ∙ omega arith in
      let part : length pre * 1024 + 1024 ≤ length bytes = omega arith in
      let size : length (flag_slot job t (length pre) x bytes) ≡ length bytes = slot_length (length pre) x bytes part in (
        slot_holds old rows pre xs x bytes room,
        rw (n, append_snoc pre x xs) at (slots_hold old rows (pre ++ (x ∷ [])) xs (flag_slot job t (length pre) x bytes) (omega arith)),
      )

-- the candidates and the flags hold the eligible nets
pub gathered : (job : Job) (earlier : List ℕ) (t : ℕ) (old : List Candidate) (c : Candidates) (before after : List ℕ) → AcceptedJob job
    → length job.nets * 1024 ≤ length before → c ≡ candidates_over old job.board (eligible_nets job earlier) → after ≡ flag_slots job t 0 (eligible_nets job earlier) before → Gathered job earlier t c after
unfolding eligible_nets candidates_over
gathered job earlier t old c before after a room e f =
    let rows = a.board_range.rows_range.1 in
    let few = a.nets_count in
    let count = eligible_length job earlier job.nets 0 in
    record {
      count_is = ap (λ d. d.count) e;
      slots = rw (e, f) (slots_hold job t old rows [] (eligible_from job earlier 0 job.nets) before (omega arith));
    }
