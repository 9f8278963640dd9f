-- The points of a wire, written.
pub mod Points
