-- The reading of a job: the form of a line, what a text is read as, what read returns, and what a fault is.
pub mod Forms
pub mod Read
pub mod TextsRead
pub mod Answers
pub mod Faults
pub mod RightAnswer
pub mod OfAccepted
