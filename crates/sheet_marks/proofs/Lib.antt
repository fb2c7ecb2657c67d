pub mod Chunks
pub mod Total
pub mod Compared
