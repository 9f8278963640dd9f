-- Laws of the lines of a layout.
pub mod Lines
