-- The plan of a job by value.
pub mod ChoiceRows
pub mod Marks
pub mod Stands
pub mod Recorded
pub mod Walking
pub mod RowByRow
pub mod TracksOfPlan
pub mod PlanIsBest
pub mod TakenOut
pub mod NextTrack
