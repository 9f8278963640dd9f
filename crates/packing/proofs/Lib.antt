-- The packing theorem: best is the largest sum of any rival sequence, and the walk is a rival sequence that has it.
pub mod Fitting
pub mod UpperBound
pub mod WalkIsRival
pub mod LowestNet
pub mod ByRow
pub mod OnePass
pub mod Bounded
pub mod StepOnly
