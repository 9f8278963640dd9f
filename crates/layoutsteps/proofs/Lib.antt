-- The laws of the step over a line.
pub mod LayoutLines
pub mod LineForms
pub mod WireLines
pub mod NetsFound
