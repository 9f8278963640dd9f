-- The candidates for a track, held against the model.
pub mod Placed
pub mod SlotArrays
pub mod Gathered
