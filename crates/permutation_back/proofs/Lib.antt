-- Laws of the permutation undone.
pub mod Generator
pub mod Blocks
