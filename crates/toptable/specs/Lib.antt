-- The table of a track.
pub mod TopsTable
