-- What holds of every sound layout.
pub mod Sums
pub mod Nets
pub mod Balance
pub mod Bounds
pub mod LooseRuns
pub mod TakenOut
