-- What the exported functions give.
pub mod Exported
