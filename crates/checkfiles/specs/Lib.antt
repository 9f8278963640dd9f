-- What is promised of the files that are checked.
pub mod LineOfFiles
