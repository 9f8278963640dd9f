-- What the lines of both formats share.
pub mod LineText
