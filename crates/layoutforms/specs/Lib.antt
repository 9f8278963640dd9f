-- The lines of a layout as the code reads them: exactly, byte by byte.
pub mod LayoutForms
pub mod Exact
pub mod ExactForm
pub mod Rows
pub mod FormCases
