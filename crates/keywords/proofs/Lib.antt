-- The laws of the tables, and of looking for a word in them.
pub mod Tables
pub mod Words
