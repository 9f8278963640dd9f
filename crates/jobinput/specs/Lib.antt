-- What is promised of the jobs on standard input.
pub mod EachPrinted
pub mod InputPrinted
