-- A plan drawn as the text of a layout.
pub mod TextParts
pub mod NetsByTop
pub mod RowsWritten
pub mod PlanDrawable
