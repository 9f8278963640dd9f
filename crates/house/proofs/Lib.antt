-- Theorems about the fixed text.
pub mod BlockTimes
pub mod BlockOrder
pub mod HouseLines
pub mod HouseRead
pub mod Examples
pub mod Promised
pub mod Spacing
pub mod TakenOut
