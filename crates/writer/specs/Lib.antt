-- The texts that the line writers write.
pub mod Lines
