-- Rival sequences and their sums on the board of document 01's worked example, and for each clause of `Rival` placements that break
-- it alone. Assumes nothing.
use Prim.Native.Nat.{ℕ, ◌+◌, ◌≤◌, ◌<◌}
use mathlib.Core.Path.{◌≡◌, refl, ap, ap₂}
use mathlib.Core.Bool.{true, false}
use mathlib.Core.List.{List, [], ◌∷◌, map, Memᴰ}
use native.Mathlib.Omega.{arith}
use Rattle.lists.specs.Lists.{Each, EachPair, any_of, all_of}
use Rattle.lists.proofs.Laws.{Each-both, Each-at}
use Rattle.board.specs.declared.Board.{Board}
use Rattle.board.specs.declared.Net.{Net}
use Rattle.board.specs.declared.Shape.TheVariants.{Plain, Stretched}
use Rattle.board.specs.Length.{width, upper, lower, span, plain_length, length_of, Allowed, shortest, needed}
use Rattle.board.specs.Weight.{weight}
use Rattle.board.specs.Job.{Job}
use Rattle.board.specs.Placement.{Placement, placement_at, Legal, bottom}
use Rattle.board.specs.Precedence.{Precedes}
use Rattle.board.specs.Rival.{Placeable, Apart, Rival, rival_sum}
use Rattle.board.specs.WorkedBoard.{worked_board, worked_job, net1, net2, net3, net4, net5}
use Rattle.board.specs.Tests.{is_on, is_before, is_ready, is_eligible}
use Rattle.board.specs.RivalClauses.{broken_clauses, BreaksOnly}
use Rattle.board.specs.RivalClauses.Clause.{net_of_job, length_from_min, length_to_max, top_from_row_one, top_to_upper, bottom_from_lower, bottom_to_last_row, clear_of_blocks, on_no_earlier_track, preceding_on_earlier_tracks, tops_rise, no_shared_row}
use Rattle.board.specs.WeightedBoard.{weighted_job, tall_alone, two_short}
use Rattle.board.specs.RivalExamples.{wide1, odd2, wide3, wide_job, track1, track2, longer3, other_top, all_rows, net6}
use Rattle.board.proofs.RivalTests.{rival_exact, breaks_only}

-- ---- rival sequences and their sums

-- the empty list, on every track of every job
pub empty_rival : (job : Job) (earlier : List ℕ) (t : ℕ) → Rival job earlier t [] × (rival_sum [] ≡ 0)
unfolding rival_sum
empty_rival job earlier t = (record { placeable = tt; rising = tt; apart = tt }, refl)

-- the wires that route writes: (track 1 9), and then (track 2 2)
pub track1_rival : Rival worked_job [] 1 track1 × (rival_sum track1 ≡ 9)
unfolding broken_clauses rival_sum weight needed shortest
track1_rival = ((rival_exact worked_job [] 1 track1).0 refl, refl)

pub track2_rival : Rival worked_job (1 ∷ 2 ∷ 3 ∷ []) 2 track2 × (rival_sum track2 ≡ 2)
unfolding broken_clauses rival_sum weight needed shortest
track2_rival = ((rival_exact worked_job (1 ∷ 2 ∷ 3 ∷ []) 2 track2).0 refl, refl)

-- net 3 longer than its shortest: the same sum
pub longer_rival : Rival worked_job [] 1 longer3 × (rival_sum longer3 ≡ 9)
unfolding broken_clauses rival_sum weight needed shortest
longer_rival = ((rival_exact worked_job [] 1 longer3).0 refl, refl)

-- net 3 could be shorter there: its shortest shape is allowed, and its length is below the one drawn
pub longer_than_shortest : Memᴰ (placement_at net3 (Stretched 0) 9) longer3 × Allowed worked_board net3 (shortest worked_board net3) ×
    (length_of worked_board net3 (shortest worked_board net3) < length_of worked_board net3 (Stretched 0))
unfolding shortest plain_length width span upper lower
longer_than_shortest = (Memᴰ.tail (Memᴰ.tail (Memᴰ.head refl)), record { long = omega arith; short = omega arith }, omega arith)

-- one that is not ours: planning/proofs/Boards.antt shows that it is not what the plan has
pub other_top_rival : Rival worked_job [] 1 other_top × (rival_sum other_top ≡ 7)
unfolding broken_clauses rival_sum weight needed shortest
other_top_rival = ((rival_exact worked_job [] 1 other_top).0 refl, refl)

-- wires on all of rows 1 to H, of which their nets need 3 + 4 + 2
pub all_rows_rival : Rival wide_job [] 1 all_rows × (rival_sum all_rows ≡ 9)
unfolding broken_clauses rival_sum weight needed shortest
all_rows_rival = ((rival_exact wide_job [] 1 all_rows).0 refl, refl)

-- rivals add weights: with a weight of 7 the two short nets are heavier than the tall one, which has more rows
pub weighted_rivals :
    (Rival (weighted_job 7) [] 1 (two_short 7) × (rival_sum (two_short 7) ≡ 9)) × (Rival (weighted_job 7) [] 1 tall_alone × (rival_sum tall_alone ≡ 6))
unfolding broken_clauses rival_sum weight needed shortest
weighted_rivals = (((rival_exact (weighted_job 7) [] 1 (two_short 7)).0 refl, refl), ((rival_exact (weighted_job 7) [] 1 tall_alone).0 refl, refl))

-- and with one of 2, its needed rows, lighter
pub unweighted_rivals : Rival (weighted_job 2) [] 1 (two_short 2) × (rival_sum (two_short 2) ≡ 4)
unfolding broken_clauses rival_sum weight needed shortest
unweighted_rivals = ((rival_exact (weighted_job 2) [] 1 (two_short 2)).0 refl, refl)

-- the sum goes by the nets alone, whatever the lengths drawn
pub sum_by_nets : (ps qs : List Placement) → map (λ x. x.net) ps ≡ map (λ x. x.net) qs → rival_sum ps ≡ rival_sum qs
unfolding rival_sum
sum_by_nets [] [] e = refl
sum_by_nets [] (q ∷ qs) e = cc
sum_by_nets (p ∷ ps) [] e = cc
sum_by_nets (p ∷ ps) (q ∷ qs) e =
    let a : p.net ≡ q.net = cc in
    let b : map (λ x. x.net) ps ≡ map (λ x. x.net) qs = cc in
    ap₂ ◌+◌ (ap weight a) (sum_by_nets ps qs b)

-- ---- placements that break one clause alone

-- net 6 is not in the job
pub unknown_net : BreaksOnly worked_job [] 1 (placement_at net6 Plain 5 ∷ []) net_of_job
unfolding broken_clauses
unknown_net = breaks_only worked_job [] 1 _ net_of_job refl

-- nor is a net 1 with another max
pub changed_net : BreaksOnly worked_job [] 1 (placement_at wide1 (Stretched 0) 2 ∷ []) net_of_job
unfolding broken_clauses
changed_net = breaks_only worked_job [] 1 _ net_of_job refl

-- net 2 at length 9, below its min of 11
pub too_short : BreaksOnly worked_job [] 1 (placement_at net2 (Stretched 0) 6 ∷ []) length_from_min
unfolding broken_clauses
too_short = breaks_only worked_job [] 1 _ length_from_min refl

-- x/2 − 1 rounded down for x = min − D = 3: length 9, below the min of 10
pub stretch_rounded_down : BreaksOnly wide_job [] 1 (placement_at odd2 (Stretched 0) 6 ∷ []) length_from_min
unfolding broken_clauses
stretch_rounded_down = breaks_only wide_job [] 1 _ length_from_min refl

-- net 1 at length 9, above its max of 7
pub too_long : BreaksOnly worked_job [] 1 (placement_at net1 (Stretched 0) 2 ∷ []) length_to_max
unfolding broken_clauses
too_long = breaks_only worked_job [] 1 _ length_to_max refl

-- stretch run past row 1: rows 0 to 4
pub past_row_one : BreaksOnly wide_job [] 1 (placement_at wide1 (Stretched 2) 0 ∷ []) top_from_row_one
unfolding broken_clauses
past_row_one = breaks_only wide_job [] 1 _ top_from_row_one refl

-- stretch run past row H: rows 9 to 11
pub past_last_row : BreaksOnly wide_job [] 1 (placement_at wide3 (Stretched 1) 9 ∷ []) bottom_to_last_row
unfolding broken_clauses
past_last_row = breaks_only wide_job [] 1 _ bottom_to_last_row refl

-- net 1 on rows 3 to 5, below its fixed row 2
pub upper_row_missed : BreaksOnly worked_job [] 1 (placement_at net1 Plain 3 ∷ []) top_to_upper
unfolding broken_clauses
upper_row_missed = breaks_only worked_job [] 1 _ top_to_upper refl

-- net 2 on rows 4 to 7, above its fixed row 8
pub lower_row_missed : BreaksOnly worked_job [] 1 (placement_at net2 (Stretched 1) 4 ∷ []) bottom_from_lower
unfolding broken_clauses
lower_row_missed = breaks_only worked_job [] 1 _ bottom_from_lower refl

-- the block of row 6 of track 2 meets the last row of net 5, and the first of net 2
pub last_row_blocked : BreaksOnly worked_job (1 ∷ 2 ∷ 3 ∷ []) 2 (placement_at net5 Plain 5 ∷ []) clear_of_blocks
unfolding broken_clauses
last_row_blocked = breaks_only worked_job (1 ∷ 2 ∷ 3 ∷ []) 2 _ clear_of_blocks refl

pub first_row_blocked : BreaksOnly worked_job (1 ∷ 3 ∷ []) 2 (placement_at net2 (Stretched 1) 6 ∷ []) clear_of_blocks
unfolding broken_clauses
first_row_blocked = breaks_only worked_job (1 ∷ 3 ∷ []) 2 _ clear_of_blocks refl

-- net 3 stands on track 1 already
pub placed_again : BreaksOnly worked_job (1 ∷ 2 ∷ 3 ∷ []) 2 (placement_at net3 Plain 9 ∷ []) on_no_earlier_track
unfolding broken_clauses
placed_again = breaks_only worked_job (1 ∷ 2 ∷ 3 ∷ []) 2 _ on_no_earlier_track refl

-- net 1 precedes net 4 and stands on no earlier track: there is none, or it has no wire on it
pub preceding_not_before : BreaksOnly worked_job [] 1 (placement_at net4 Plain 2 ∷ []) preceding_on_earlier_tracks
unfolding broken_clauses
preceding_not_before = breaks_only worked_job [] 1 _ preceding_on_earlier_tracks refl

pub preceding_loose : BreaksOnly worked_job (2 ∷ 3 ∷ []) 2 (placement_at net4 Plain 2 ∷ []) preceding_on_earlier_tracks
unfolding broken_clauses
preceding_loose = breaks_only worked_job (2 ∷ 3 ∷ []) 2 _ preceding_on_earlier_tracks refl

-- a net on the same track as one preceding it: net 2 precedes net 5, and both cover row 6, so that two clauses break
pub preceding_on_same_track : broken_clauses worked_job [] 1 (placement_at net5 Plain 5 ∷ placement_at net2 (Stretched 1) 6 ∷ []) ≡ preceding_on_earlier_tracks ∷ no_shared_row ∷ []
unfolding broken_clauses
preceding_on_same_track = refl

-- nets 3 and 1 by falling top row
pub falling_tops : BreaksOnly worked_job [] 1 (placement_at net3 Plain 9 ∷ placement_at net1 Plain 2 ∷ []) tops_rise
unfolding broken_clauses
falling_tops = breaks_only worked_job [] 1 _ tops_rise refl

-- the end row counted as free: net 2 on rows 6 to 9, net 3 on rows 9 to 10
pub shared_end_row : BreaksOnly worked_job [] 1 (placement_at net2 (Stretched 1) 6 ∷ placement_at net3 Plain 9 ∷ []) no_shared_row
unfolding broken_clauses
shared_end_row = breaks_only worked_job [] 1 _ no_shared_row refl

-- ---- no net has two wires in a rival sequence

covers_upper : (board : Board) (p : Placement) → Legal board p → (p.top ≤ upper p.net) × (upper p.net ≤ bottom p)
unfolding upper lower
covers_upper board p l = (l.over_upper, omega (arith, l.under_lower))

apart_nets : (board : Board) (p q : Placement) → Legal board p → Legal board q → Apart p q → p.net ≡ q.net → ⊥
apart_nets board p q l m d e =
    let a = covers_upper board p l in
    let b = covers_upper board q m in
    let u : upper p.net ≡ upper q.net = ap upper e in
    d (upper p.net) a.0 a.1 (omega arith) (omega arith)

pub no_net_twice : (job : Job) (earlier : List ℕ) (t : ℕ) (ps : List Placement) → Rival job earlier t ps → EachPair (λ p q. p.net ≡ q.net → ⊥) ps
no_net_twice job earlier t ps r = go ps r.placeable r.apart
  where
    go : (ps : List Placement) → Each (Placeable job earlier t) ps → EachPair Apart ps → EachPair (λ p q. p.net ≡ q.net → ⊥) ps
    go [] a b = tt
    go (p ∷ ps) a b = (Each-both ps (λ q w d e. apart_nets job.board p q a.0.legal w.legal d e) a.1 b.0, go ps a.1 b.1)

-- ---- precedence

pub net1_precedes_net4 : Precedes net1 net4
net1_precedes_net4 = record { another = λ (e : ◌≡◌ {A = ℕ} 1 4). omega arith; meets = refl }

pub net2_precedes_net5 : Precedes net2 net5
net2_precedes_net5 = record { another = λ (e : ◌≡◌ {A = ℕ} 2 5). omega arith; meets = refl }

-- and not the other way round
pub net4_follows_net1 : Precedes net4 net1 → ⊥
net4_follows_net1 p = let e : ◌≡◌ {A = ℕ} 3 4 = p.meets in omega arith

pub precedes_no_self : (n : Net) → Precedes n n → ⊥
precedes_no_self n p = p.another refl

-- nets 1, 2 and 3 are eligible on track 1; nets 4 and 5 on track 2, after those three
pub eligible_track1 : map (is_eligible worked_job []) worked_job.nets ≡ true ∷ true ∷ true ∷ false ∷ false ∷ []
unfolding is_eligible is_on is_ready is_before any_of all_of
eligible_track1 = refl

pub eligible_track2 : map (is_eligible worked_job (1 ∷ 2 ∷ 3 ∷ [])) worked_job.nets ≡ false ∷ false ∷ false ∷ true ∷ true ∷ []
unfolding is_eligible is_on is_ready is_before any_of all_of
eligible_track2 = refl

-- a net and one that precedes it never stand on one track
pub never_together : (job : Job) (earlier : List ℕ) (t : ℕ) (ps : List Placement) → Rival job earlier t ps → (p q : Placement) → Memᴰ p ps → Memᴰ q ps → Precedes p.net q.net → ⊥
never_together job earlier t ps r p q i j before =
    let a = Each-at (Placeable job earlier t) ps p r.placeable i in
    let b = Each-at (Placeable job earlier t) ps q r.placeable j in
    a.eligible.fresh (b.eligible.ready p.net a.of_job before)
