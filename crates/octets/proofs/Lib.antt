-- Laws that the proofs share.
pub mod Parts
pub mod Total
