-- What the check's sets hold.
pub mod Sets
