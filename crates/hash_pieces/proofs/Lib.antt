-- Laws that the proofs share.
pub mod Counts
pub mod Judging
pub mod Pieces
pub mod Staying
