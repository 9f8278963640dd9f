-- The words of the two formats.
pub mod Keywords
