-- A plan drawn as the text of a layout.
pub mod PlanText
pub mod Once
pub mod Parts
