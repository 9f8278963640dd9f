-- The laws of judging.
pub mod Indexes
pub mod LinedNets
pub mod LinesAdded
pub mod Remaining
pub mod Rows
pub mod Turns
pub mod Steps
pub mod WireSteps
