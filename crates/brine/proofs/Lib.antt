-- Laws that several of this crate's proofs use.
pub mod Counts
pub mod Filled
pub mod Batch
pub mod Totals
pub mod Upto
