-- The laws of read.
pub mod Reading
pub mod RefusalLines
pub mod Reports
