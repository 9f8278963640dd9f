-- Document 01, "Choosing a track".
pub mod Fits
pub mod Best
pub mod Walk
pub mod Step
