-- The parts of the fixed text that are written one after another.
pub mod Parts
