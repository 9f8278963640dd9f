-- Statements and tests over the elements of a list.
pub mod Lists
