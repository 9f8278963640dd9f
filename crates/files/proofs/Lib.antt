-- Laws of a file that is read.
pub mod Reading
pub mod TakenOut
