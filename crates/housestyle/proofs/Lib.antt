-- Laws of house's answer.
pub mod Answering
pub mod TwoFiles
