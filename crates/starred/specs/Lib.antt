-- Document 01, "Boards to try": the starred boards.
pub mod Boards
