-- Laws of what the program `check` prints.
pub mod Lines
