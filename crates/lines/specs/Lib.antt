-- The lines of a text, the tokens of a line, and the places that a reading of them comes to.
pub mod Places
pub mod Scanned
pub mod Tokens
pub mod Stepped
pub mod Tokened
