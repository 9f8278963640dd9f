-- The plan of a track by value, and what the code computes of the candidates' arrays.
pub mod TrackPlans
pub mod Filled
