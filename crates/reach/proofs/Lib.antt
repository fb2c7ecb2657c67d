-- Laws that several of this crate's proofs use.
pub mod Wells
pub mod Steps
pub mod Levels
pub mod Hops
pub mod Ends
pub mod Fronts
