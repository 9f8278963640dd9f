-- Laws of route's answer.
pub mod Answering
pub mod NeededLength
