-- What the programs print that write a text for a job.
pub mod Printed
pub mod Promised
