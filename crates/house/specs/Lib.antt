-- Order 1: the fixed text of a job.
pub mod Blocks
pub mod HouseText
pub mod Promises
