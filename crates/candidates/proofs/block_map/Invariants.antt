-- Before each turn the rows set are those that the blocks passed close.
use lib.ListN.{take}
use Rattle.candidates.proofs.TrackBlocks.{MapFrom}
use Rattle.candidates.proofs.block_map.Given as goal

abbrev pub invariant-loop-block : goal.invariant-loop-block
invariant-loop-block l = MapFrom l.map.words l.track.0 (take l.block-index l.job.blocks)
