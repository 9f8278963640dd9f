-- What an exact reading of a line of a layout finds is what reading back finds.
pub mod NumbersRead
pub mod PointsRead
pub mod ExactForms
pub mod RowsRead
pub mod FormsRead
pub mod FormExamples
