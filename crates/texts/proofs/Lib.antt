-- Laws of the texts on standard input.
pub mod TextsLeft
