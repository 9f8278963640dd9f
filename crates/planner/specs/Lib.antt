-- The plan of a job by value.
pub mod JobPlans
pub mod Progressed
pub mod Chosen
