-- Layouts and their text are the same thing, and so are placements and their drawings.
pub mod RoundTrip
pub mod WorkedText
pub mod DrawnOnce
pub mod DrawnLength
pub mod OnGrid
pub mod Neighbours
