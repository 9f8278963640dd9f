-- Laws of the points of a wire.
pub mod Parts
