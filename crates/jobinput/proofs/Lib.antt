-- Laws of the jobs on standard input.
pub mod Each
pub mod TakenOut
