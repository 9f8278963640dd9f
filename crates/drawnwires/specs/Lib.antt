-- Where a net stands that a wire line draws, as the code answers it.
pub mod DrawnPlaces
