-- The laws of the definitions in specs/.
pub mod Tests
pub mod Accepts
pub mod StoredJobs
pub mod RefusalNumbers
pub mod TestOrder
pub mod NetTests
pub mod NetFaults
pub mod BlockTests
pub mod BlockFaults
pub mod LinesAbove
pub mod LineFaults
pub mod Refusals
pub mod Returned
pub mod Texts
pub mod RightOnly
pub mod TakenOut
