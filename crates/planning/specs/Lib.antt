-- Document 01, "Choosing a track": the tracks of a job, one filled after another.
pub mod Plan
pub mod Loose
