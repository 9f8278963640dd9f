-- Laws of the lines of a job's fixed text.
pub mod Lines
