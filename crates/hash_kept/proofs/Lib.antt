-- Laws that the proofs share.
pub mod Answer
pub mod Limit
pub mod Tests
pub mod Zeros
