-- The plan of an accepted job is unbeaten on every track, and its sums balance.
pub mod FirstTracks
pub mod PlanUnbeaten
pub mod Balance
pub mod Boards
