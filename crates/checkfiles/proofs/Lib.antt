-- Laws of the files that are checked.
pub mod TakenOut
