-- The answer of an operation that writes a text.
pub mod Answers
