-- Document 01, "Drawing": the text that route writes, and what demands 2 and 3 ask of it.
pub mod DrawnTracks
pub mod Route
pub mod Promises
