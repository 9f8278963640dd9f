-- Laws of the parts of the fixed text.
pub mod Parts
