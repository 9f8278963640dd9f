-- Laws of sorted blocks.
pub mod Sorting
