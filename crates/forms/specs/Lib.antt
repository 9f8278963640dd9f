-- The numbers of a form as the code holds them.
pub mod Arguments
