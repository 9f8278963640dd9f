-- What `list_band`, `row_pick` and `fill` compute, over the candidates. proofs/FilledPlan.antt shows that it is the plan of
-- the track.
use Rattle.std.specs.Prelude.{ℕ, zero, suc, ◌+◌, ◌*◌, ◌-◌, ◌≤◌, ◌<◌, Bool, cond, ◌&&◌, List, leb, ltb, eqb, length, get_or, set, replicate, Option, None, Some}
use Rattle.candidates.specs.declared.Candidate.{Candidate}
use Rattle.candidates.specs.declared.SlotArray.{SlotArray}
use Rattle.candidates.specs.SlotArrays.{Candidates, with_value}
use Rattle.candidates.specs.Gathered.{no_candidate}
use Rattle.choice.specs.declared.Pick.{Pick}
use Rattle.choice.specs.declared.Listed.{Listed}
use Rattle.choice.specs.declared.TrackPlan.{TrackPlan}

-- what slot i holds
abbrev pub slot : Candidates → ℕ → Candidate
slot c i = get_or c.slots i no_candidate

-- candidate i, which has part i of the flags
abbrev pub listed : Candidates → ℕ → Listed
listed c i = record { part = i; candidate = slot c i }

-- a listed candidate can stand with its top at row j: j is one of its tops, and it is clear of blocks there; flags outside its tops do not
-- count
unfoldable pub has_clear_top : Listed → List ℕ → ℕ → Bool
has_clear_top x flags j =
    leb x.candidate.tops.first.0 j && leb j x.candidate.tops.last.0 && eqb (get_or flags (x.part * 1024 + (j - 1)) 0) 1

-- the sum with candidate x's top at row j, where `best` has best(r) at index r
unfoldable pub sum_at : Candidate → List ℕ → ℕ → ℕ
sum_at x best j = x.tops.weight + get_or best (j + x.tops.need) 0

-- a net takes over only where its sum is more
unfoldable pub better : Pick → ℕ → ℕ → Pick
better p sum net = cond (ltb p.sum sum) (record { sum = sum; at = Some net }) p

-- the pick of row j after the first i candidates: at first best(j + 1) and no net
unfoldable pub pick_to : Candidates → List ℕ → List ℕ → ℕ → ℕ → Pick
pick_to c flags best j zero = record { sum = get_or best (j + 1) 0; at = None }
pick_to c flags best j (suc i) =
    let p = pick_to c flags best j i in
    let x = slot c i in
    cond (has_clear_top (listed c i) flags j) (better p (sum_at x best j) x.net) p

-- candidate x has a top in rows lo to hi
unfoldable pub in_band : Candidate → ℕ → ℕ → Bool
in_band x lo hi = leb x.tops.first.0 hi && leb lo x.tops.last.0

-- what a slot of a band holds in which no candidate was put
abbrev pub no_listed : Listed
no_listed = record { part = 0; candidate = no_candidate }

-- the candidates listed for a band of rows
abbrev pub Band : Type 0
Band = SlotArray Listed

-- those of the first i candidates that have a top in rows lo to hi, rising, put over the slots `old`
unfoldable pub band_to : Candidates → ℕ → ℕ → List Listed → ℕ → Band
band_to c lo hi old zero = record { count = 0; slots = old }
band_to c lo hi old (suc i) =
    let b = band_to c lo hi old i in
    cond (in_band (slot c i) lo hi) (with_value b (listed c i)) b

-- the pick of row j after the first k listed candidates: as pick_to, with the k-th listed in place of the k-th
unfoldable pub pick_among : List ℕ → List ℕ → ℕ → List Listed → ℕ → Pick
pick_among flags best j slots zero = record { sum = get_or best (j + 1) 0; at = None }
pick_among flags best j slots (suc k) =
    let p = pick_among flags best j slots k in
    let l = get_or slots k no_listed in
    cond (has_clear_top l flags j) (better p (sum_at l.candidate best j) l.candidate.net) p

-- rows j, j − 1, .. to 1 are still to be filled
unfoldable pub fill_from : Candidates → List ℕ → ℕ → List ℕ → List (Option ℕ) → TrackPlan
fill_from c flags zero best choice = record { choice = choice; sum = get_or best 1 0 }
fill_from c flags (suc j) best choice =
    let p = pick_to c flags best (suc j) c.count in
    fill_from c flags j (set best (suc j) p.sum) (set choice j p.at)

-- all rows filled, from the last up; best(H + 1) is 0
unfoldable pub filled_plan : Candidates → List ℕ → ℕ → TrackPlan
filled_plan c flags rows = fill_from c flags rows (replicate 1026 0) (replicate 1024 None)

-- a candidate's rows lie within the board wherever its top is, and it weighs at most 4,096
pub record SlotInBounds (x : Candidate) (rows : ℕ) : Type 0 where
  pub need_range : 1 ≤ x.tops.need
  pub room : x.tops.last.0 + x.tops.need ≤ rows + 1
  pub weight_range : x.tops.weight ≤ 4096

-- what `fill` asks of the candidates: bounds alone
pub record InBounds (c : Candidates) (flags : List ℕ) (rows : ℕ) : Type 0 where
  pub rows_range : (1 ≤ rows) × (rows ≤ 1024)
  pub count_range : c.count ≤ 512
  pub flags_range : c.count * 1024 ≤ length flags
  pub slots : (i : ℕ) → i < c.count → SlotInBounds (slot c i) rows

-- what the pick of row j asks of a listed candidate: the flags have a part for it, and where it has a top at row j, the row below it is in
-- the table and the sum is not too large
pub record PickInBounds (flags best : List ℕ) (j : ℕ) (x : Listed) : Type 0 where
  pub part_range : x.part < 512
  pub flags_range : x.part * 1024 + 1024 ≤ length flags
  pub room : j ≤ x.candidate.tops.last.0 → j + x.candidate.tops.need ≤ 1025
  pub low : j ≤ x.candidate.tops.last.0 → x.candidate.tops.weight + get_or best (j + x.candidate.tops.need) 0 ≤ 4194304

-- what `row_pick` asks at row j
pub record RowInBounds (flags best : List ℕ) (j : ℕ) (band : Band) : Type 0 where
  pub row_range : (1 ≤ j) × (j ≤ 1024)
  pub count_range : band.count ≤ 512
  pub each_listed : (k : ℕ) → k < band.count → PickInBounds flags best j (get_or band.slots k no_listed)
