-- Laws of what the lines of both formats share.
pub mod Parts
pub mod Runs
