-- What document 01 says of its starred boards holds, and what it says.
pub mod Stated
pub mod TakenOut
