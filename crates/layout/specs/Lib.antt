-- Document 01, "Drawing": layouts, their text, and drawings of placements.
pub mod Tree
pub mod LayoutText
pub mod ReadBack
pub mod Drawing
pub mod Drawn
pub mod WorkedTree
