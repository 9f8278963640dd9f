-- The laws of the definitions in specs/.
pub mod NoCandidate
pub mod Prefixes
pub mod TrackBlocks
pub mod FlagParts
pub mod NetBefore
pub mod Eligible
pub mod Slots
