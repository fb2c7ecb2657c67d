-- Laws of stepping back over a record.
pub mod Counts
pub mod States
