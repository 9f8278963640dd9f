-- The laws of check.
pub mod LayoutLeft
pub mod Answering
pub mod AnswerHolds
pub mod CheckRight
