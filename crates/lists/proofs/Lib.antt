-- The laws of the definitions in specs/.
pub mod Cases
pub mod Laws
pub mod Tested
pub mod Joins
pub mod Places
