-- Laws that the proofs share.
pub mod Words
pub mod Room
