-- Laws of the sums, of what the answer of read stands for, and of the values of an answer.
pub mod Sums
pub mod Answered
pub mod Replies
pub mod Verdicts
pub mod TakenOut
