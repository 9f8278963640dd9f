-- The blocked rows of a track as bits, and the top rows that are clear of them.
pub mod Bits
pub mod Clear
