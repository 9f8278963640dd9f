-- The step over a line of a layout text.
pub mod LayoutSteps
pub mod Found
