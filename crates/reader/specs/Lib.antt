-- The step of the reading place, the answer from what the lines filled, and the line that a reading prints.
pub mod Cursors
pub mod Slots
pub mod Reports
