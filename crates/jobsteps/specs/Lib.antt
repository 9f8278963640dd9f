-- What the code of read holds of the lines above.
pub mod LinesAbove
