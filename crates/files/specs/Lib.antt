-- What is promised of a file that is read.
pub mod Unopened
pub mod Given
pub mod FileTexts
