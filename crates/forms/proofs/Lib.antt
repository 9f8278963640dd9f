-- The laws of reading a form.
pub mod Gathering
pub mod Forms
