-- The code's pass over the candidates, and that its plan is the plan of the track.
pub mod Picking
pub mod Bands
pub mod Filling
pub mod EligibleNets
pub mod GatheredBounds
pub mod ChosenIndex
pub mod RowBest
pub mod FilledPlan
