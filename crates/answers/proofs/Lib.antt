-- Laws of the answer of an operation that writes a text.
pub mod ByRoom
pub mod Answering
pub mod TakenOut
