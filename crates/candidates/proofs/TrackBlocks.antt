-- The blocked rows of a track, block after block; where no block is on the track no row is blocked. Assumes nothing.
use Prim.Native.Nat.{ℕ, ◌+◌, ◌<◌}
use mathlib.Core.Bool.{Bool, true, false, ◌||◌}
use mathlib.Core.List.{List, [], ◌∷◌}
use mathlib.Core.Path.{◌≡◌, refl, ap, ◌∙◌}
use lib.Dec.{eqb}
use lib.ListN.{length, get_or, take}
use Rattle.std.specs.List.{list_any}
use Rattle.lists.specs.Lists.{any_of}
use Rattle.lists.proofs.Cases.{by_test}
use Rattle.lists.proofs.Joins.{any_of_more}
use Rattle.lists.proofs.Places.{take_more, mem_at}
use Rattle.board.specs.declared.Block.{Block}
use Rattle.board.specs.Job.{Job, closes_row, blocked}
use Rattle.board.specs.Stored.{no_block}
use Rattle.board.specs.Accepted.{AcceptedJob, BlockInRange}
use Rattle.blockmap.specs.Bits.{is_set}
use Rattle.candidates.specs.Placed.{has_blocks}

-- the rows set are those that a block of bs closes
abbrev pub MapFrom : List ℕ → ℕ → List Block → Type 0
MapFrom words t bs = (row : ℕ) → is_set words row ≡ any_of (λ b. closes_row b t row) bs

-- before the first block
pub map_none : (words : List ℕ) (t : ℕ) (bs : List Block) → ((row : ℕ) → is_set words row ≡ false) → MapFrom words t (take 0 bs)
unfolding any_of
map_none words t bs h row = h row

-- one more block
pub map_more : (old words : List ℕ) (t : ℕ) (bs : List Block) (i : ℕ) (d : Block) → i < length bs → MapFrom old t (take i bs)
    → ((row : ℕ) → is_set words row ≡ (closes_row (get_or bs i d) t row || is_set old row)) → MapFrom words t (take (i + 1) bs)
map_more old words t bs i d h p q row =
    rw (take_more bs i d h, any_of_more (λ b. closes_row b t row) (take i bs) (get_or bs i d))
    (q row ∙ ap (λ r. closes_row (get_or bs i d) t row || r) (p row))

-- a block of an accepted job is in range
pub block_range : (job : Job) → AcceptedJob job → (i : ℕ) → i < length job.blocks → BlockInRange job.board (get_or job.blocks i no_block)
block_range job a i h = a.blocks_each (get_or job.blocks i no_block) (mem_at job.blocks i no_block h)

-- no block on the track
pub none_closes : (bs : List Block) (t : ℕ) → list_any (λ b. eqb b.track.0 t) bs ≡ false → (row : ℕ) → any_of (λ b. closes_row b t row) bs ≡ false
unfolding any_of closes_row
none_closes [] t h row = refl
none_closes (b ∷ bs) t h row =
    by_test (eqb b.track.0 t)
    (λ e. let z : ◌≡◌ {A = Bool} true false = rw e at h in cc)
    (λ e. rw e (none_closes bs t (rw e at h) row))

pub none_blocked : (job : Job) (t : ℕ) → has_blocks job t ≡ false → (row : ℕ) → blocked job t row ≡ false
unfolding has_blocks blocked
none_blocked job t h row = none_closes job.blocks t h row
