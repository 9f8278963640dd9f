-- Gathering net after net: candidates and flags hold the eligible nets among the nets passed. Assumes nothing.
use Prim.Native.Nat.{ℕ, ◌+◌, ◌*◌, ◌-◌, ◌≤◌, ◌<◌}
use mathlib.Core.Path.{◌≡◌, refl, sym, ap, ◌∙◌}
use mathlib.Core.Bool.{Bool, true}
use mathlib.Core.List.{List, [], ◌∷◌, ◌++◌}
use native.Mathlib.Omega.{arith}
use lib.ListN.{length, get_or, take}
use lib.Seq.{length-take-le}
use Rattle.std.specs.Prelude.{Option, None, Some}
use Rattle.std.proofs.lemmas.List.{take_all}
use Rattle.std.proofs.lemmas.Option.{none-some, cond_some}
use Rattle.lists.proofs.Cases.{by_test}
use Rattle.lists.proofs.Places.{take_more}
use Rattle.board.specs.declared.Net.{Net}
use Rattle.board.specs.declared.Board.{Board}
use Rattle.board.specs.Length.{shortest}
use Rattle.board.specs.Job.{Job}
use Rattle.board.specs.Accepted.{BoardInRange, AcceptedNet, AcceptedJob}
use Rattle.board.specs.Stored.{no_net}
use Rattle.board.proofs.ShortestShape.{needed_covered, needed_pos}
use Rattle.board.proofs.Tops.{accepted_fits, first_top_one, some_top, last_top_room}
use Rattle.board.specs.Tests.{is_eligible}
use Rattle.blockmap.specs.declared.BlockMap.{BlockMap}
use Rattle.blockmap.specs.Clear.{flag_tops}
use Rattle.blockmap.proofs.ClearTops.{flags_length}
use Rattle.candidates.specs.SlotArrays.{Candidates, with_value}
use Rattle.candidates.specs.declared.NetTops.{NetTops}
use Rattle.board.specs.declared.Wired.{Wired}
use Rattle.candidates.specs.declared.Candidate.{Candidate}
use Rattle.candidates.specs.Placed.{eligible_at, preceding_of, placed_numbers}
use Rattle.candidates.specs.Gathered.{Eligible, eligible_from, eligible_nets, tops_of, candidates_over, BlocksOf, leave_free, on_part, flag_slot, flag_slots, GatheredFrom}
use Rattle.candidates.proofs.NetBefore.{accepted_at, preceding_at}
use Rattle.candidates.proofs.Eligible.{eligible_ready, placed_numbers_lem, same_eligible, eligible_taken, eligible_passed, eligible_length}
use Rattle.candidates.proofs.FlagParts.{part_length}
use Rattle.candidates.proofs.Slots.{slots_put, slot_flagged, slots_more, gathered}
use Rattle.toptable.specs.TopsTable.{tops_if, TableOf}

-- the tops of an accepted net are rows of its part
pub tops_range : (board : Board) (n : Net) → BoardInRange board → AcceptedNet board n → let tops = tops_of board n in
    (1 ≤ tops.first.0) × (tops.first.0 ≤ tops.last.0) × (1 ≤ tops.need) × (tops.last.0 + tops.need ≤ 1025)
unfolding tops_of
tops_range board n b a =
    let s = shortest board n in
    let fit = accepted_fits board n a in
    let one = first_top_one n s in
    let some = some_top board n s a.in_range fit in
    let room = last_top_room board n s fit in
    let same = needed_covered board n in
    let pos = needed_pos board n in
    let rows = b.rows_range in
    (omega arith, omega arith, omega arith, omega arith)

-- the eligible nets among the first i
abbrev pub first_eligible : Job → List (Option Wired) → ℕ → List Eligible
first_eligible job stands i = eligible_from job (placed_numbers job stands) 0 (take i job.nets)

-- after the first i nets; the map has the blocks of whatever track it fits
pub record Passed (job : Job) (stands : List (Option Wired)) (map : Option BlockMap) (old : List Candidate) (before : List ℕ) (found : Candidates) (flags : List ℕ) (i : ℕ) : Type 0 where
  pub candidates : found ≡ candidates_over old job.board (first_eligible job stands i)
  pub size : length flags ≡ length before
  pub bytes : (t : ℕ) → BlocksOf job t map → flags ≡ flag_slots job t 0 (first_eligible job stands i) before

pub passed_none : (job : Job) (stands : List (Option Wired)) (map : Option BlockMap) (old : List Candidate) (before : List ℕ)
    → Passed job stands map old before (record { count = 0; slots = old }) before 0
unfolding eligible_from flag_slots candidates_over
passed_none job stands map old before = record { candidates = refl; size = refl; bytes = λ t of. refl }

module _ (job : Job) (accepted : AcceptedJob job) (stands : List (Option Wired)) (map : Option BlockMap) (old : List Candidate) (before : List ℕ) (found : Candidates) (flags : List ℕ) (i : ℕ) where
  -- no more candidates than nets passed, so that there is a slot
  pub passed_count : i ≤ length job.nets → Passed job stands map old before found flags i → found.count ≤ i
  unfolding candidates_over
  passed_count h p =
      let e : found.count ≡ length (first_eligible job stands i) = ap (λ c. c.count) p.candidates in
      omega (arith, eligible_length job (placed_numbers job stands) (take i job.nets) 0, length-take-le i job.nets (omega arith))

  module _ (h : i < length job.nets) (table : List (Option NetTops)) (of : TableOf job stands table) where
    abbrev net : Net
    net = get_or job.nets i no_net

    -- the look-up for net i is the test for it
    lookup : is_eligible job (placed_numbers job stands) net ≡ eligible_at (get_or (preceding_of job) i None) stands i
    lookup =
        eligible_ready job accepted stands (placed_numbers job stands) (placed_numbers_lem job stands accepted) net i h refl
        ∙ ap (λ b. eligible_at b stands i) (sym (preceding_at job accepted i h))

    -- a net that is not eligible
    pub passed_skip : get_or table i None ≡ None → Passed job stands map old before found flags i → Passed job stands map old before found flags (i + 1)
    unfolding tops_if
    passed_skip e p =
        by_test (eligible_at (get_or (preceding_of job) i None) stands i)
        (λ t. let some : get_or table i None ≡ Some (tops_of job.board net) = rw t at (of i h) in absurd (none-some _ (sym e ∙ some)))
        (λ t.
        let same : first_eligible job stands (i + 1) ≡ first_eligible job stands i =
        rw (take_more job.nets i no_net h) (eligible_passed job (placed_numbers job stands) (take i job.nets) net 0 (lookup ∙ t)) in
        record { candidates = rw same p.candidates; size = p.size; bytes = λ t fits. rw same (p.bytes t fits) })

    module _ (tops : NetTops) (e : get_or table i None ≡ Some tops) where
      -- an eligible net
      is : (eligible_at (get_or (preceding_of job) i None) stands i ≡ true) × (tops_of job.board net ≡ tops)
      unfolding tops_if
      is = cond_some _ _ _ (sym (of i h) ∙ e)

      pub found_range : (1 ≤ tops.first.0) × (tops.first.0 ≤ tops.last.0) × (1 ≤ tops.need) × (tops.last.0 + tops.need ≤ 1025)
      found_range = rw is.1 at (tops_range job.board net accepted.board_range (accepted_at job accepted i h))

      pub passed_take : length job.nets * 1024 ≤ length before → Passed job stands map old before found flags i → length old ≡ 512 → (after : List ℕ)
          → after ≡ on_part found.count (flag_tops (λ top. leave_free map top tops.need) tops.first.0 (tops.last.0 + 1 - tops.first.0)) flags
          → Passed job stands map old before (with_value found (record { net = i; tops = tops })) after (i + 1)
      unfolding candidates_over
      passed_take room p size after a =
          let x : Eligible = record { index = i; net = net } in
          let xs = first_eligible job stands i in
          let few = accepted.nets_count in
          let k : found.count ≡ length xs = ap (λ c. c.count) p.candidates in
          let low : found.count ≤ i = passed_count (omega arith) p in
          let here : 0 + length (take i job.nets) ≡ i = omega (arith, length-take-le i job.nets (omega arith)) in
          let more : first_eligible job stands (i + 1) ≡ xs ++ (x ∷ []) =
          rw (take_more job.nets i no_net h)
          (rw here at (eligible_taken job (placed_numbers job stands) (take i job.nets) net 0 (lookup ∙ is.0))) in
          let part : found.count * 1024 + 1024 ≤ length flags = omega (arith, p.size) in
          let first = tops.first.0 in
          let count = tops.last.0 + 1 - tops.first.0 in
          let test : ℕ → Bool = λ top. leave_free map top tops.need in
          record {
            candidates = rw (more, ← is.1) (slots_put old job.board found xs x p.candidates (omega arith));
            size = ap length a ∙ part_length found.count (flag_tops test first count) flags (flags_length test first count) part ∙ p.size;
            bytes = λ t fits.
                let z : found.count ≡ 0 + length xs = omega arith in
                rw more
                ((rw (← is.1) at a) ∙ slot_flagged job t map fits x found.count flags
                ∙ ap (λ m. flag_slot job t m x flags) z
                ∙ ap (λ f. flag_slot job t (0 + length xs) x f) (p.bytes t fits)
                ∙ sym (slots_more job t 0 xs x before));
          }

  -- after all nets
  pub passed_all : (t : ℕ) → BlocksOf job t map → length job.nets * 1024 ≤ length before → length job.nets ≤ i
      → Passed job stands map old before found flags i → GatheredFrom job stands t old before found flags
  unfolding eligible_nets
  passed_all t fits room l p =
      let e = take_all i job.nets l in
      let all = placed_numbers job stands in
      let c : found ≡ candidates_over old job.board (eligible_nets job all) = rw e at p.candidates in
      let bytes : flags ≡ flag_slots job t 0 (eligible_nets job all) before = rw e at (p.bytes t fits) in
      record {
        candidates = c;
        bytes = bytes;
        gathered = λ earlier is.
            let same : eligible_nets job all ≡ eligible_nets job earlier =
            same_eligible job accepted stands all earlier (placed_numbers_lem job stands accepted) is in
            gathered job earlier t old found before flags accepted room
            (c ∙ ap (λ xs. candidates_over old job.board xs) same)
            (bytes ∙ ap (λ xs. flag_slots job t 0 xs before) same);
      }
