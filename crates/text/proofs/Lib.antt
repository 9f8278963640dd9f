-- The laws of the definitions in specs/, and of code that writes and reads by them.
pub mod Bytes
pub mod Numbers
pub mod Writing
pub mod Runs
pub mod Reading
