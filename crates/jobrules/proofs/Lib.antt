-- The laws of used pins, of the ranges of a line's numbers, and of the outcomes of a line.
pub mod Pins
pub mod Outcomes
