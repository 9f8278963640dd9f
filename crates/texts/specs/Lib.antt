-- How the texts on standard input are kept apart.
pub mod Ends
