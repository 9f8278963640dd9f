-- What the check keeps of the lines above, by value, and the tests of a line on values.
pub mod Judged
pub mod Ranges
pub mod Values
