-- The placement that a wire line draws.
pub mod Drawn
