-- The check passes what route writes; every track of a sound layout is a rival.
pub mod RouteJudged
pub mod CheckPasses
pub mod SoundRival
