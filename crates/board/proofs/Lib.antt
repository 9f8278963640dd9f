-- Laws of the model's definitions, and facts computed on the boards of document 01.
pub mod ShortestShape
pub mod Tops
pub mod Weights
pub mod Lengths
pub mod SameNumber
pub mod StoredJobs
pub mod ExactTests
pub mod RivalTests
pub mod RivalFacts
pub mod AcceptedFacts
pub mod TakenOut
