-- Document 01, "A sound layout".
pub mod Wires
pub mod Sound
