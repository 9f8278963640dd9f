-- The laws of the step over a line.
pub mod Slots
pub mod Taking
pub mod Adding
pub mod States
