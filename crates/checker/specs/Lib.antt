-- Check: its answers, and what an answer is to be.
pub mod Answers
pub mod RightVerdict
