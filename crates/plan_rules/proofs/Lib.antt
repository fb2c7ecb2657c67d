-- Laws that several of this crate's proofs use.
pub mod Shape
