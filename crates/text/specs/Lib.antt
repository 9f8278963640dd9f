-- Texts as bytes: pieces and lines, decimal numbers, and what a writer leaves in a buffer.
pub mod Bytes
pub mod Digits
pub mod Written
pub mod Runs
