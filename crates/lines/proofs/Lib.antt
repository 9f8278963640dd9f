-- The laws of scans, of steps over lines, and of tokens, and what a step and a token say, taken out.
pub mod Scans
pub mod StepAnswers
pub mod Steps
pub mod Tokens
pub mod TakenOut
